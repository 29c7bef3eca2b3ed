-- The words that say where a machine stands lead back there.
use Rattle.std.proofs.Common.{◌≡◌, ℕ, zero, suc, ◌+◌, ◌-◌, ◌/◌, ◌%◌, ◌<◌, ◌≤◌, Bool, true, false, List, [], ◌∷◌, ◌++◌, length, take, drop, get_or, set, refl}
use Rattle.std.proofs.Common.{sym, ◌∙◌, ap, subst, arith, append-nil, append_assoc, length-append, eqb-true, lt-ltb, le-leb}
use Rattle.std.specs.Prelude.{◌==◌, ◌&&◌, nat_lt, nat_le, if◌then◌else◌, map, slice_index, slice_set, All}
use Rattle.std.specs.List.{flat_map}
use Rattle.std.proofs.lemmas.List.{length-map, take_all, drop_all, set_at, set-get_or, length-take-le}
use Rattle.std.proofs.Math.Seq.{take-suc, drop-cons}
use Rattle.std.proofs.lemmas.List.Elements.{All-nil, All-cons, All-head, All-tail}
use Rattle.hart.specs.{IsOfItsOpening, HartState, HartView}
use Rattle.memory.specs.declared.writes.Write.{Write}
use Rattle.memory.specs.Words.{written_since}
use Rattle.memory.proofs.Written.{written_back, written_few}
use Rattle.hart.proofs.Advances.{same_state}
use Rattle.hart.specs.declared.status.Status.{Status}
use Rattle.hart.specs.declared.status.Status.TheVariants as status
use Rattle.hart.specs.declared.status.Stop.TheVariants as stop
use Rattle.step_machine.specs.Names.{Stored, HasAddress, InMemory, Config, Fit, beginning, view_state, position_of, Change, unless_same, changed, pair_words}
use Rattle.step_machine.specs.Names.{packed_hart, packed_buffer, packed_stored, packed, store_words, status_number, status_named, unpacked_changes}
use Rattle.step_machine.specs.Names.{unpacked_hart, unpacked_harts, with_store, unpacked_stores, unpacked_buffer, unpacked_buffers, with_words, unpacked_stored}
use Rattle.step_machine.specs.Names.{put_at, IsSoundHart, IsSoundMachine, AreOfOneOpening}

-- ---- registers

with_changes : List ℕ → List Change → List ℕ
with_changes xs [] = xs
with_changes xs (p ∷ ps) = with_changes (slice_set xs p.0 p.1) ps

with_changes-append : (xs : List ℕ) (ps qs : List Change) → with_changes xs (ps ++ qs) ≡ with_changes (with_changes xs ps) qs
unfolding with_changes
with_changes-append xs [] qs = refl
with_changes-append xs (p ∷ ps) qs = with_changes-append (slice_set xs p.0 p.1) ps qs

changes_read : (ps : List Change) (xs rest : List ℕ) → unpacked_changes (length ps) xs (flat_map pair_words ps ++ rest) ≡ (with_changes xs ps, rest)
unfolding with_changes
changes_read [] xs rest = refl
changes_read (p ∷ ps) xs rest = changes_read ps (slice_set xs p.0 p.1) rest

-- one more register, after those before it
one_back : (first now : List ℕ) (n : ℕ) → n < length first → length first ≡ length now
    → with_changes (take n now ++ drop n first) (unless_same n (slice_index first n) (slice_index now n)) ≡ take (suc n) now ++ drop (suc n) first
unfolding with_changes
one_back first now n within same = by (slice_index first n == slice_index now n) refl
  where
    by : (b : Bool) → (slice_index first n == slice_index now n) ≡ b
        → with_changes (take n now ++ drop n first) (if b then [] else (n, slice_index now n) ∷ []) ≡ take (suc n) now ++ drop (suc n) first
    by true e =
        let f_is : get_or now n 0 ≡ get_or first n 0 = sym (eqb-true (slice_index first n) (slice_index now n) e) in
        let front : take (suc n) now ≡ take n now ++ get_or now n 0 ∷ [] = take-suc now n 0 (omega arith) in
        ap (λ xs. take n now ++ xs) (drop-cons first n 0 within) ∙ ap (λ x. take n now ++ x ∷ drop (suc n) first) (sym f_is)
        ∙ sym (append_assoc (take n now) (get_or now n 0 ∷ []) (drop (suc n) first)) ∙ ap (λ xs. xs ++ drop (suc n) first) (sym front)
    by false e =
        let front : take (suc n) now ≡ take n now ++ get_or now n 0 ∷ [] = take-suc now n 0 (omega arith) in
        ap (λ xs. set (take n now ++ xs) n (get_or now n 0)) (drop-cons first n 0 within)
        ∙ set_at (take n now) (get_or first n 0) (drop (suc n) first) (get_or now n 0) n (length-take-le n now (omega arith))
        ∙ sym (append_assoc (take n now) (get_or now n 0 ∷ []) (drop (suc n) first)) ∙ ap (λ xs. xs ++ drop (suc n) first) (sym front)

changed-back : (first now : List ℕ) (n : ℕ) → n ≤ length first → length first ≡ length now
    → with_changes first (changed first now n) ≡ take n now ++ drop n first
unfolding changed with_changes
changed-back first now zero within same = refl
changed-back first now (suc n) within same =
    with_changes-append first (changed first now n) (unless_same n (slice_index first n) (slice_index now n))
    ∙ ap (λ xs. with_changes xs (unless_same n (slice_index first n) (slice_index now n))) (changed-back first now n (omega arith) same)
    ∙ one_back first now n (omega arith) same

registers_back : (first now rest : List ℕ) → length first ≡ 32 → length now ≡ 32
    → unpacked_changes (length (changed first now 32)) first (flat_map pair_words (changed first now 32) ++ rest) ≡ (now, rest)
registers_back first now rest size now_size =
    changes_read (changed first now 32) first rest
    ∙ ap (λ (xs : List ℕ). (xs, rest)) (changed-back first now 32 (omega arith) (size ∙ sym now_size)
    ∙ ap (λ xs. xs ++ drop 32 first) (take_all 32 now (omega arith)) ∙ ap (λ xs. now ++ xs) (drop_all 32 first (omega arith)) ∙ append-nil now)

-- ---- harts

status_back : (s : Status) → status_named (status_number s) ≡ s
status_back status.Running = refl
status_back status.Ended = refl
status_back (status.Stopped stop.Illegal) = refl
status_back (status.Stopped stop.Misaligned) = refl
status_back (status.Stopped stop.SubWord) = refl
status_back (status.Stopped stop.OutOfRange) = refl
status_back (status.Stopped stop.MisalignedJump) = refl
status_back (status.Stopped stop.NoCode) = refl
status_back (status.Stopped stop.UnknownCall) = refl
status_back (status.Stopped stop.Break) = refl

zero_again : (xs : List ℕ) → slice_index xs 0 ≡ 0 → slice_set xs 0 0 ≡ xs
zero_again xs is = ap (set xs 0) (sym is) ∙ set-get_or xs 0 0

-- the hart stands there, and the words after its own are left
pub record IsBack (w : HartView) (rest : List ℕ) (taken : HartView × List ℕ) : Type 0 where
  pub state : taken.0.state ≡ w.state
  pub left : taken.1 ≡ rest

-- the hart's code and its memory's size are those with which it opened
pub record HasOwnCode (v : HartView) : Type 0 where
  pub code : v.state.code ≡ v.first.code
  pub words : v.state.words ≡ v.first.words

pub own_code : (v : HartView) → IsOfItsOpening v → HasOwnCode v
own_code v own = record { code = own.code; words = own.words }

-- it is so before words say where it stands, where it is so after
pub own_codes : (vs : List HartView) (words : List ℕ) → All IsOfItsOpening (unpacked_harts vs words).0 → All HasOwnCode vs
own_codes [] words all = All-nil HasOwnCode
own_codes (v ∷ vs) words all =
    let one : HartView = (unpacked_hart v words).0 in
    let others : List HartView = (unpacked_harts vs (unpacked_hart v words).1).0 in
    let own : IsOfItsOpening one = All-head IsOfItsOpening one others all in
    All-cons HasOwnCode v vs (record { code = own.code; words = own.words })
    (own_codes vs (unpacked_hart v words).1 (All-tail IsOfItsOpening one others all))

pub hart_back : (v w : HartView) (rest : List ℕ) → v.first ≡ w.first → HasOwnCode v → IsSoundHart w → IsBack w rest (unpacked_hart v (packed_hart w ++ rest))
hart_back v w rest opens of_v of_w =
    let changes = changed w.first.registers w.state.registers 32 in
    let same : unpacked_changes (length changes) v.first.registers (flat_map pair_words changes ++ rest) ≡ (w.state.registers, rest) =
    ap (λ (f : HartState). unpacked_changes (length changes) f.registers (flat_map pair_words changes ++ rest)) opens
    ∙ registers_back w.first.registers w.state.registers rest of_w.first_size of_w.size in
    record {
      state = same_state _ w.state (of_v.code ∙ ap (λ (f : HartState). f.code) opens ∙ sym of_w.own.code)
          (of_v.words ∙ ap (λ (f : HartState). f.words) opens ∙ sym of_w.own.words)
          (ap (λ (p : List ℕ × List ℕ). slice_set p.0 0 0) same ∙ zero_again w.state.registers of_w.own.zero) refl
          (ap (λ (f : HartState). drop (length f.inbox - length w.state.inbox) f.inbox) opens ∙ of_w.own.inbox) (status_back w.state.status);
      left = ap (λ (p : List ℕ × List ℕ). p.1) same;
    }

record AreBack (ws : List HartView) (rest : List ℕ) (taken : List HartView × List ℕ) : Type 0 where
  states : map view_state taken.0 ≡ map view_state ws
  left : taken.1 ≡ rest

harts_back : (vs ws : List HartView) (rest : List ℕ) → map beginning vs ≡ map beginning ws → All HasOwnCode vs → All IsSoundHart ws
    → AreBack ws rest (unpacked_harts vs (flat_map packed_hart ws ++ rest))
harts_back [] [] rest opens of_vs of_ws = record { states = refl; left = refl }
harts_back (v ∷ vs) (w ∷ ws) rest opens of_vs of_ws =
    let head : v.first ≡ w.first = cc in
    let tail : map beginning vs ≡ map beginning ws = cc in
    let here = hart_back v w (flat_map packed_hart ws ++ rest) head (All-head HasOwnCode v vs of_vs) (All-head IsSoundHart w ws of_ws) in
    let there = harts_back vs ws rest tail (All-tail HasOwnCode v vs of_vs) (All-tail IsSoundHart w ws of_ws) in
    let later = subst (λ words. AreBack ws rest (unpacked_harts vs words)) (sym here.left) there in
    subst (λ words. AreBack (w ∷ ws) rest (unpacked_harts (v ∷ vs) words)) (sym (append_assoc (packed_hart w) (flat_map packed_hart ws) rest))
    (record { states = λ k. here.state k ∷ later.states k; left = later.left })
harts_back x y rest opens of_vs of_ws = cc

-- ---- buffers and memory

stored_last : (B M : ℕ) (stores : List Write) (w : Write) → length stores < B → HasAddress M w → with_store B M stores w ≡ stores ++ w ∷ []
stored_last B M stores w room has =
    let in_word : w.width ≤ 4 - w.addr % 4 = omega (arith, has.0) in
    let first = lt-ltb (length stores) B room in
    let second = le-leb w.width (4 - w.addr % 4) in_word in
    let place : w.addr / 4 < M = omega (arith, has.1) in
    let third = lt-ltb (w.addr / 4) M place in
    ap (λ b. if b && nat_le w.width (4 - w.addr % 4) && nat_lt (w.addr / 4) M then stores ++ w ∷ [] else stores) first
    ∙ ap (λ b. if true && b && nat_lt (w.addr / 4) M then stores ++ w ∷ [] else stores) second
    ∙ ap (λ b. if true && true && b then stores ++ w ∷ [] else stores) third

pub stores-back : (B M : ℕ) (stores before : List Write) (rest : List ℕ) → length before + length stores ≤ B → InMemory M stores
    → unpacked_stores B M (length stores) before (flat_map store_words stores ++ rest) ≡ (before ++ stores, rest)
stores-back B M [] before rest room has = ap (λ (ps : List Write). (ps, rest)) (sym (append-nil before))
stores-back B M (w ∷ stores) before rest room has =
    let more : length (before ++ w ∷ []) ≡ length before + 1 = length-append before (w ∷ []) in
    ap (λ ps. unpacked_stores B M (length stores) ps (flat_map store_words stores ++ rest))
    (stored_last B M before w (omega arith) (All-head (HasAddress M) w stores has))
    ∙ stores-back B M stores (before ++ w ∷ []) rest (omega arith) (All-tail (HasAddress M) w stores has)
    ∙ ap (λ (ps : List Write). (ps, rest)) (append_assoc before (w ∷ []) stores)

abbrev Within : ℕ → List Write → Type 0
Within B ps = length ps ≤ B

buffers_back : (B M : ℕ) (old bs : List (List Write)) (rest : List ℕ) → length old ≡ length bs → All (Within B) bs → All (InMemory M) bs
    → unpacked_buffers B M old (flat_map packed_buffer bs ++ rest) ≡ (bs, rest)
buffers_back B M [] [] rest count room has = refl
buffers_back B M (a ∷ old) (b ∷ bs) rest count room has =
    let few : 0 + length b ≤ B = omega (arith, All-head (Within B) b bs room) in
    let here : unpacked_buffer B M (packed_buffer b ++ (flat_map packed_buffer bs ++ rest)) ≡ (b, flat_map packed_buffer bs ++ rest) =
    stores-back B M b [] (flat_map packed_buffer bs ++ rest) few (All-head (InMemory M) b bs has) in
    let there = buffers_back B M old bs rest (omega arith) (All-tail (Within B) b bs room) (All-tail (InMemory M) b bs has) in
    ap (unpacked_buffers B M (a ∷ old)) (append_assoc (packed_buffer b) (flat_map packed_buffer bs) rest)
    ∙ ap (λ (p : List Write × List ℕ). (p.0 ∷ (unpacked_buffers B M old p.1).0, (unpacked_buffers B M old p.1).1)) here
    ∙ ap (λ (p : List (List Write) × List ℕ). (b ∷ p.0, p.1)) there
buffers_back B M x y rest count room has = cc

pub words-back : (M : ℕ) (first words : List ℕ) → length first ≡ M → length words ≡ M → with_words M first (written_since first words) ≡ words
words-back M first words size same =
    let few : length (written_since first words) ≤ M = omega (arith, written_few first words) in
    ap (λ xs. xs ++ drop (length xs) first) (take_all M (written_since first words) few) ∙ written_back first words (size ∙ sym same)

stored_back : (B M : ℕ) (s t : Stored) → s.first ≡ t.first → length s.buffers ≡ length t.buffers → All (Within B) t.buffers → All (InMemory M) t.buffers
    → length t.first ≡ M → length t.words ≡ M → unpacked_stored B M s (packed_stored t) ≡ t
stored_back B M s t first count room has size same =
    let taken = buffers_back B M s.buffers t.buffers (written_since t.first t.words) count room has in
    let words = words-back M t.first t.words size same in
    λ k. record {
      buffers = (taken k).0;
      words = (ap (λ (p : List (List Write) × List ℕ). with_words M s.first p.1) taken
          ∙ ap (λ f. with_words M f (written_since t.first t.words)) first ∙ words) k;
      first = first k;
    }

-- ---- the machine

same_length : (c d : Config) → AreOfOneOpening c d → length c.harts ≡ length d.harts
same_length c d opens = sym (length-map c.harts beginning) ∙ ap length opens.harts ∙ length-map d.harts beginning

-- a machine that is put at the position of another of its opening stands there, whatever it held before
pub position_put : (B M : ℕ) (c d : Config) → AreOfOneOpening c d → All HasOwnCode c.harts → Fit M c → IsSoundMachine B M d
    → position_of (put_at B M c (packed d)) ≡ position_of d
position_put B M c d opens own fit of_d =
    let harts = harts_back c.harts d.harts (packed_stored d.stored) opens.harts own of_d.harts in
    let count : length c.stored.buffers ≡ length d.stored.buffers = fit.buffers ∙ same_length c d opens ∙ sym of_d.fit.buffers in
    let stored = ap (unpacked_stored B M c.stored) harts.left
    ∙ stored_back B M c.stored d.stored opens.first count of_d.buffers of_d.fit.stored.pending of_d.fit.stored.first of_d.fit.stored.words in
    λ k. record { harts = harts.states k; stored = stored k }

pub position_back : (B M : ℕ) (c d : Config) → AreOfOneOpening c d → IsSoundMachine B M c → IsSoundMachine B M d
    → position_of (put_at B M c (packed d)) ≡ position_of d
position_back B M c d opens of_c of_d = position_put B M c d opens (λ k v within. own_code _ (of_c.harts k v within).own) of_c.fit of_d

-- two machines of one opening whose words are the same are at the same position
pub position_is : (B M : ℕ) (c d : Config) → AreOfOneOpening c d → IsSoundMachine B M c → IsSoundMachine B M d
    → packed c ≡ packed d → position_of c ≡ position_of d
position_is B M c d opens of_c of_d same =
    sym (position_back B M c c (record { harts = refl; first = refl }) of_c of_c)
    ∙ ap (λ words. position_of (put_at B M c words)) same
    ∙ position_back B M c d opens of_c of_d
