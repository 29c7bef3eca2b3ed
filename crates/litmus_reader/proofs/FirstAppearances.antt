-- Names in order of first appearance, and steps that look them up.
use Rattle.std.proofs.Common.{◌≡◌, ℕ, zero, suc, ◌+◌, ◌*◌, ◌<◌, ◌≤◌, Bool, true, false, not, cond, List, [], ◌∷◌, ◌++◌, length, filter, Option, Some, None}
use Rattle.std.proofs.Common.{Result, Ok, Err, refl, sym, ap, subst, ◌∙◌, inl, inr, append_assoc, length-append, ltb-true, ltb-false, arith}
use Rattle.std.specs.Prelude.{nat_lt, ◌||◌}
use Rattle.std.specs.Str.{bytes_eq}
use Rattle.std.proofs.lemmas.Bool.{cases_Bool}
use Rattle.std.proofs.lemmas.List.{append-nil}
use Rattle.std.proofs.lemmas.List.Elements.{filter-append}
use Rattle.std.proofs.lemmas.Slice.Eq.{bytes_eq-Decides}
use Rattle.texts.specs.Results.{◌>>=◌}
use Rattle.texts.proofs.ResultLaws.{some_is}
use Rattle.litmus_tokens.specs.Assignments.{NamedValue}
use Rattle.litmus_tokens.specs.Assignments.NamedValue.{number, address_of}
use Rattle.litmus_reader.specs.{LitmusFault, Names, index_from, name_added, resolved, value_resolved, each_once, name_of_value, IsAt, IsNamedValue}

-- the name is one of these
abbrev pub has : Names → List ℕ → Bool
has [] name = false
has (other ∷ others) name = bytes_eq other name || has others name

abbrev without : List ℕ → Names → Names
without name names = filter (λ other. not (bytes_eq name other)) names

same_bytes : (xs : List ℕ) → bytes_eq xs xs ≡ true
same_bytes xs = (bytes_eq-Decides xs xs).1 refl

-- ---- what is left without a name

has-without : (m name : List ℕ) (names : Names) → bytes_eq m name ≡ false → has (without m names) name ≡ has names name
has-without m name [] other = refl
has-without m name (x ∷ names) other = grind (arith, cases_Bool, bytes_eq-Decides, has-without m name names other)

gone : (m : List ℕ) (names : Names) → has (without m names) m ≡ false
gone m [] = refl
gone m (x ∷ names) = grind (arith, cases_Bool, bytes_eq-Decides, same_bytes, gone m names)

none-without : (m name : List ℕ) (names : Names) → has names name ≡ false → has (without m names) name ≡ false
none-without m name names none = grind (arith, cases_Bool, bytes_eq-Decides, gone, has-without)

-- ---- one name more

abbrev added : Names → List ℕ → Bool → Names
added names name b = names ++ cond b [] (name ∷ [])

added-cons : (m name : List ℕ) (names : Names) (here there : Bool) → bytes_eq m name ≡ here → has names name ≡ there
    → m ∷ without m (added names name there) ≡ added (m ∷ without m names) name (here || has (without m names) name)
added-cons m name names here there h5 is = grind (arith, cases_Bool, append-nil, filter-append, has-without)

once-snoc : (ms : Names) (name : List ℕ) → each_once (ms ++ name ∷ []) ≡ added (each_once ms) name (has (each_once ms) name)
once-snoc [] name = refl
once-snoc (m ∷ ms) name = ap (λ (xs : Names). m ∷ without m xs) (once-snoc ms name)
    ∙ added-cons m name (each_once ms) (bytes_eq m name) (has (each_once ms) name) refl refl

-- ---- names that are met after others

-- the names, and those of the others that are new, in order of first appearance
abbrev pub met : Names → Names → Names
met names [] = names
met names (name ∷ others) = met (added names name (has names name)) others

pub met-once : (ms more : Names) → met (each_once ms) more ≡ each_once (ms ++ more)
met-once ms [] = ap each_once (sym (append-nil ms))
met-once ms (name ∷ more) = ap (λ (names : Names). met names more) (sym (once-snoc ms name)) ∙ met-once (ms ++ name ∷ []) more
    ∙ ap each_once (append_assoc ms (name ∷ []) more)

pub met-append : (names ms more : Names) → met names (ms ++ more) ≡ met (met names ms) more
met-append names [] more = refl
met-append names (name ∷ ms) more = met-append (added names name (has names name)) ms more

-- the names that were there stay in front
met_onward : (names more : Names) → (rest : Names) × (met names more ≡ names ++ rest)
met_onward names [] = ([], sym (append-nil names))
met_onward names (name ∷ more) =
    let new = cond (has names name) [] (name ∷ []) in
    let next = met_onward (names ++ new) more in
    (new ++ next.0, next.1 ∙ append_assoc names new next.0)

pub fewer : (names more : Names) → length names ≤ length (met names more)
fewer names more = let next = met_onward names more in rw next.1 (simp length-append (omega arith))

pub at_met : (names more : Names) (name : List ℕ) (index : ℕ) → IsAt names name index → IsAt (met names more) name index
at_met names more name index at =
    let next = met_onward names more in
    (at.0, at.1 ++ next.0, next.1 ∙ ap (λ (ns : Names). ns ++ next.0) at.2 ∙ append_assoc at.0 (name ∷ at.1) next.0, at.3)

-- ---- each name has one index

abbrev pub Distinct : Names → Type 0
Distinct [] = Unit {0}
Distinct (name ∷ others) = (has others name ≡ false) × Distinct others

distinct-without : (m : List ℕ) (names : Names) → Distinct names → Distinct (without m names)
distinct-without m [] distinct = tt
distinct-without m (x ∷ names) distinct = grind (arith, cases_Bool, none-without, distinct-without m names distinct.1)

pub once_distinct : (ms : Names) → Distinct (each_once ms)
once_distinct [] = tt
once_distinct (m ∷ ms) = (gone m (each_once ms), distinct-without m (each_once ms) (once_distinct ms))

has_middle : (above below : Names) (name other : List ℕ) → has (above ++ name ∷ below) other ≡ false → bytes_eq name other ≡ false
has_middle [] below name other none = grind (arith, cases_Bool)
has_middle (first ∷ above) below name other none = grind (arith, cases_Bool, has_middle above below name other)

turned_apart : (a b : List ℕ) → bytes_eq a b ≡ false → bytes_eq b a ≡ false
turned_apart a b apart = grind (arith, cases_Bool, bytes_eq-Decides, same_bytes)

index_at : (at : ℕ) (above below : Names) (name : List ℕ) → Distinct (above ++ name ∷ below)
    → index_from at (above ++ name ∷ below) name ≡ Some (at + length above)
index_at at [] below name distinct = rw (same_bytes name) (ap Some (omega arith))
index_at at (first ∷ above) below name distinct = grind (arith, turned_apart, has_middle, index_at (at + 1) above below name distinct.1)

index_of : (names : Names) (name : List ℕ) (index : ℕ) → Distinct names → IsAt names name index → index_from 0 names name ≡ Some index
index_of names name index distinct at = grind (arith, index_at)

pub one_index : (names : Names) (name : List ℕ) (i j : ℕ) → Distinct names → IsAt names name i → IsAt names name j → i ≡ j
one_index names name i j distinct first second = some_is i j (sym (index_of names name i distinct first) ∙ index_of names name j distinct second)

same_middle : (above other below rest : Names) (a b : List ℕ) → above ++ a ∷ below ≡ other ++ b ∷ rest → length above ≡ length other → a ≡ b
same_middle [] [] below rest a b same lengths = cc
same_middle (x ∷ above) (y ∷ other) below rest a b same lengths =
    (let shorter : length above ≡ length other = omega arith in
    let tails : above ++ a ∷ below ≡ other ++ b ∷ rest = cc in same_middle above other below rest a b tails shorter)
same_middle z u below rest a b same lengths = absurd (omega arith)

pub one_name : (names : Names) (a b : List ℕ) (i : ℕ) → IsAt names a i → IsAt names b i → a ≡ b
one_name names a b i first second = same_middle first.0 second.0 first.1 second.1 a b (sym first.2 ∙ second.2) (sym first.3 ∙ second.3)

pub at_below : (names : Names) (name : List ℕ) (index : ℕ) → IsAt names name index → index < length names
at_below names name index at = rw (at.2, at.3) (simp length-append (omega arith))

-- the name at an index
pub at_any : (names : Names) (index : ℕ) → index < length names → (name : List ℕ) × IsAt names name index
at_any [] index less = absurd (omega arith)
at_any (name ∷ names) zero less = (name, ([], names, refl, refl))
at_any (name ∷ names) (suc index) less =
    let rest = at_any names index (omega arith) in
    (rest.0, (name ∷ rest.1.0, rest.1.1, ap (λ (xs : Names). name ∷ xs) rest.1.2, ap suc rest.1.3))

-- ---- a name that has an index is one of those that appeared

has_at : (above below : Names) (name : List ℕ) → has (above ++ name ∷ below) name ≡ true
has_at [] below name = rw (same_bytes name) refl
has_at (first ∷ above) below name = grind (arith, cases_Bool, has_at above below name)

-- ---- meeting a name

record Indexed (at : ℕ) (names : Names) (name : List ℕ) (index : ℕ) : Type 0 where
  above : Names
  below : Names
  whole : names ≡ above ++ name ∷ below
  counted : index ≡ at + length above

indexed : (at : ℕ) (names : Names) (name : List ℕ) (index : ℕ) → index_from at names name ≡ Some index → Indexed at names name index
indexed at [] name index e = absurd cc
indexed at (other ∷ others) name index e = elim (cases_Bool (bytes_eq other name)) [
  | inl same ↦ (let here : at ≡ index = some_is at index (rw same at e) in record {
    above = [];
    below = others;
    whole = ap (λ (x : List ℕ). x ∷ others) ((bytes_eq-Decides other name).0 same);
    counted = omega (arith, here);
  })
  | inr apart ↦ (
      let rest = indexed (at + 1) others name index (rw apart at e) in
      record { above = other ∷ rest.above; below = rest.below; whole = ap (λ (xs : Names). other ∷ xs) rest.whole; counted = omega (arith, rest.counted) })
]

unindexed : (at : ℕ) (names : Names) (name : List ℕ) → index_from at names name ≡ None → has names name ≡ false
unindexed at [] name e = refl
unindexed at (other ∷ others) name e = grind (arith, cases_Bool, unindexed (at + 1) others name)

-- ---- steps that look names up

-- a value, and the names with those that it mentions
pub record IsMet {V : Type 0} (mentions : Names) (Is : Names → V → Type 0) (names : Names) (found : V × Names) : Type 0 where
  pub all : found.1 ≡ met names mentions
  pub few : length names ≤ 1024 → length found.1 ≤ 1024
  pub is : Is found.1 found.0

-- what a step answers: such a value, or a fault where there are too many names or there is no such value
abbrev pub IsAnswer : {V : Type 0} → (mentions : Names) → (Is : Names → V → Type 0) → Names → Result (V × Names) LitmusFault → Type 0
IsAnswer mentions Is names (Ok found) = IsMet mentions Is names found
IsAnswer {V = V} mentions Is names (Err fault) = length (met names mentions) ≤ 1024 → (final : Names) (v : V) → Is final v → ⊥

-- A step from the names so far to a value; further names change none, and there is one at most.
pub record Resolves {V : Type 0} (step : Names → Result (V × Names) LitmusFault) (mentions : Names) (Is : Names → V → Type 0) : Type 0 where
  pub answers : (names : Names) → IsAnswer mentions Is names (step names)
  pub later : (names more : Names) (v : V) → Is names v → Is (met names more) v
  pub one : (names : Names) (v w : V) → Distinct names → Is names v → Is names w → v ≡ w

pub found_by : {V : Type 0} {step : Names → Result (V × Names) LitmusFault} {mentions : Names} {Is : Names → V → Type 0} → Resolves step mentions Is
    → (names : Names) (found : V × Names) → step names ≡ Ok found → IsMet mentions Is names found
found_by {V = V} {mentions = mentions} {Is = Is} r names found e =
    subst (λ (o : Result (V × Names) LitmusFault). IsAnswer mentions Is names o) e (r.answers names)

pub some_by : {V : Type 0} {step : Names → Result (V × Names) LitmusFault} {mentions : Names} {Is : Names → V → Type 0} → Resolves step mentions Is
    → (names final : Names) (v : V) → Is final v → length (met names mentions) ≤ 1024
    → (w : V) × (step names ≡ Ok (w, met names mentions)) × Is (met names mentions) w
some_by {V = V} {step = step} {mentions = mentions} {Is = Is} r names final v is few = go (step names) (r.answers names)
  where
    go : (o : Result (V × Names) LitmusFault) → IsAnswer mentions Is names o → (w : V) × (o ≡ Ok (w, met names mentions)) × Is (met names mentions) w
    go (Ok found) answer = (
      found.0,
      ap (λ (ns : Names). Ok (found.0, ns)) answer.all,
      subst (λ (ns : Names). Is ns found.0) answer.all answer.is,
    )
    go (Err fault) never = absurd (never few final v is)

-- the value that is one among all names, of which those that follow are known
pub only_by : {V : Type 0} {step : Names → Result (V × Names) LitmusFault} {mentions : Names} {Is : Names → V → Type 0} → Resolves step mentions Is
    → (names more : Names) (v : V) → Distinct (met (met names mentions) more) → length (met (met names mentions) more) ≤ 1024
    → Is (met (met names mentions) more) v → step names ≡ Ok (v, met names mentions)
only_by {mentions = mentions} r names more v distinct few is =
    let found = some_by r names (met (met names mentions) more) v is (omega (arith, few, fewer (met names mentions) more)) in
    let later = r.later (met names mentions) more found.0 found.2 in
    found.1 ∙ ap (λ w. Ok (w, met names mentions)) (r.one (met (met names mentions) more) found.0 v distinct later is)

pub resolves_known : {V : Type 0} (v : V) → Resolves (λ names. Ok (v, names)) [] (λ names w. w ≡ v)
resolves_known v = record {
  answers = λ names. record { all = refl; few = λ few. few; is = refl };
  later = λ names more w is. is;
  one = λ names u w distinct first second. first ∙ sym second;
}

-- the index of a name among those that appeared
index_answers : (names : Names) (name : List ℕ) → IsAnswer (name ∷ []) (λ ns index. IsAt ns name index) names (resolved names name)
unfolding resolved
index_answers names name = go (index_from 0 names name) refl
  where
    go : (o : Option ℕ) → index_from 0 names name ≡ o → IsAnswer (name ∷ []) (λ ns index. IsAt ns name index) names (name_added names name o)
    go (Some index) is =
        let at = indexed 0 names name index is in
        let old : has names name ≡ true = ap (λ (ns : Names). has ns name) at.whole ∙ has_at at.above at.below name in
        record { all = rw old (sym (append-nil names)); few = λ few. few; is = (at.above, at.below, at.whole, omega (arith, at.counted)) }
    go None is =
        let new = unindexed 0 names name is in
        elim (cases_Bool (nat_lt (length names) 1024)) [
          | inl room ↦ rw room (record {
            all = rw new refl;
            few = λ _. simp length-append (omega (arith, ltb-true (length names) 1024 room));
            is = (names, [], refl, refl);
          })
          | inr full ↦ rw full (λ few final index at. omega (arith, ltb-false (length names) 1024 full, simp (length-append, new) at few))
        ]

pub resolves_named : {V : Type 0} (f : ℕ → V) (name : List ℕ)
    → Resolves (λ names. resolved names name >>= λ found. Ok (f found.0, found.1)) (name ∷ [])
    (λ names v. (index : ℕ) × IsAt names name index × (v ≡ f index))
resolves_named {V = V} f name = record {
  answers = λ names. go names (resolved names name) (index_answers names name);
  later = λ names more v (index, at, is). (index, at_met names more name index at, is);
  one = λ names v w distinct (i, first, is) (j, second, same). is ∙ ap f (one_index names name i j distinct first second) ∙ sym same;
}
  where
    go : (names : Names) (o : Result (ℕ × Names) LitmusFault) → IsAnswer (name ∷ []) (λ ns index. IsAt ns name index) names o
        → IsAnswer (name ∷ []) (λ ns (v : V). (index : ℕ) × IsAt ns name index × (v ≡ f index)) names (o >>= λ found. Ok (f found.0, found.1))
    go names (Ok found) answer = record { all = answer.all; few = answer.few; is = (found.0, answer.is, refl) }
    go names (Err fault) never = λ few final v (index, at, is). never few final index at

-- one step and then another
pub resolves_both : {A B C : Type 0} (f : A → B → C) {r : Names → Result (A × Names) LitmusFault} {s : Names → Result (B × Names) LitmusFault}
    {ms ns : Names} {P : Names → A → Type 0} {Q : Names → B → Type 0} → Resolves r ms P → Resolves s ns Q
    → Resolves (λ names. r names >>= λ a. s a.1 >>= λ b. Ok (f a.0 b.0, b.1)) (ms ++ ns)
    (λ names c. (a : A) × (b : B) × P names a × Q names b × (c ≡ f a b))
resolves_both {A = A} {B = B} {C = C} f {r = r} {s = s} {ms = ms} {ns = ns} {P = P} {Q = Q} first second = record {
  answers = λ names. go names (r names) (first.answers names);
  later = λ names more c (a, b, p, q, is). (a, b, first.later names more a p, second.later names more b q, is);
  one = λ names c d distinct (a, b, p, q, is) (x, y, u, v, same).
      is ∙ ap (λ z. f z b) (first.one names a x distinct p u) ∙ ap (f x) (second.one names b y distinct q v) ∙ sym same;
}
  where
    Both : Names → C → Type 0
    Both names c = (a : A) × (b : B) × P names a × Q names b × (c ≡ f a b)

    onto : (names : Names) (a : A × Names) → IsMet ms P names a → (o : Result (B × Names) LitmusFault) → IsAnswer ns Q a.1 o
        → IsAnswer (ms ++ ns) Both names (o >>= λ b. Ok (f a.0 b.0, b.1))
    onto names a here (Ok b) next = record {
      all = next.all ∙ ap (λ (known : Names). met known ns) here.all ∙ sym (met-append names ms ns);
      few = λ few. next.few (here.few few);
      is = (a.0, b.0, subst (λ (known : Names). P known a.0) (sym next.all) (first.later a.1 ns a.0 here.is), next.is, refl);
    }
    onto names a here (Err fault) never = λ few final c (x, y, p, q, is).
        never (rw here.all (rw met-append at few)) final y q

    go : (names : Names) (o : Result (A × Names) LitmusFault) → IsAnswer ms P names o
        → IsAnswer (ms ++ ns) Both names (o >>= λ a. s a.1 >>= λ b. Ok (f a.0 b.0, b.1))
    go names (Ok a) here = onto names a here (s a.1) (second.answers a.1)
    go names (Err fault) never = λ few final c (x, y, p, q, is).
        never (let whole = rw met-append at few in omega (arith, whole, fewer (met names ms) ns)) final x p

-- ---- values

pub value_resolves : (value : NamedValue) → Resolves (λ names. value_resolved names value) (name_of_value value) (λ names word. IsNamedValue names value word)
unfolding value_resolved
value_resolves (number n) = resolves_known n
value_resolves (address_of name) = resolves_named (λ index. 4 * index) name

pub one_named_value : (names : Names) (value : NamedValue) (v w : ℕ) → Distinct names → IsNamedValue names value v → IsNamedValue names value w → v ≡ w
one_named_value names value v w distinct first second = (value_resolves value).one names v w distinct first second
