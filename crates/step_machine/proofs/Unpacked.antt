-- What packed entries stand for once a head comes at their end, their last row grows by an entry, or a last head goes.
use Rattle.std.proofs.Common.{◌≡◌, ℕ, ◌+◌, ◌≤◌, ◌-◌, List, [], ◌∷◌, ◌++◌, sym, ◌∙◌, ap, ap₂, subst, arith, append-nil, append_assoc, length, take, drop}
use Rattle.std.proofs.Common.{length-append, length-drop}
use Rattle.std.proofs.Math.ListN.{get_or-append}
use Rattle.std.proofs.lemmas.List.{length-take-le, drop-append-le, take-append-drop, take_at, replicate_more, nil_from_length, length_push}
use Rattle.std.proofs.lemmas.List.Sums.{sum_by-cons, sum_by_push}
use Rattle.step_machine.specs.Names.{Entry, Head}
use Rattle.step_machine.specs.inner.Packed.{IsBalanced, IsSingle, IsLonger, numbers_of, plain_of, further_of, entry_of, packed_entries, unpacked}

-- a head's entry stays where more numbers and plain entries come after its own
entry_stays : (h : Head) (ns ms : List ℕ) (ps qs : List Entry) → numbers_of h ≤ length ns → plain_of h ≤ length ps
    → entry_of h (ns ++ ms) (ps ++ qs) ≡ entry_of h ns ps
entry_stays h ns ms ps qs n p = grind (arith, get_or-append)

unpacked-push : (hs : List Head) (ns ms : List ℕ) (ps qs : List Entry) (h : Head) → IsBalanced hs ns ps
    → unpacked (hs ++ h ∷ []) (ns ++ ms) (ps ++ qs) ≡ unpacked hs ns ps ++ packed_entries h ms qs
unpacked-push [] ns ms ps qs h b = grind (arith, nil_from_length, append-nil)
unpacked-push (g ∷ hs) ns ms ps qs h b = grind (
  arith,
  sum_by-cons numbers_of g hs,
  sum_by-cons plain_of g hs,
  length-drop (numbers_of g) ns,
  length-drop (plain_of g) ps,
  entry_stays g ns ms ps qs,
  drop-append-le (numbers_of g) ns ms,
  drop-append-le (plain_of g) ps qs,
  append_assoc (packed_entries g ns ps) (unpacked hs (drop (numbers_of g) ns) (drop (plain_of g) ps)) (packed_entries h ms qs),
  unpacked-push hs (drop (numbers_of g) ns) ms (drop (plain_of g) ps) qs h,
)

-- packed entries, and the same with this entry at the end
pub record Added (hs : List Head) (ns : List ℕ) (ps : List Entry) (more : List Head) (ms : List ℕ) (qs : List Entry)
    (e : Entry) : Type 0 where
  pub before : IsBalanced hs ns ps
  pub after : IsBalanced more ms qs
  pub entries : unpacked more ms qs ≡ unpacked hs ns ps ++ e ∷ []
  pub count : length (unpacked more ms qs) ≡ length (unpacked hs ns ps) + 1

-- with a head of one entry
pub added_to : {hs more : List Head} {h : Head} {ns ms : List ℕ} {ps qs : List Entry} (ks : List ℕ) (rs : List Entry)
    → IsBalanced hs ns ps → more ≡ hs ++ h ∷ [] → ms ≡ ns ++ ks → qs ≡ ps ++ rs → IsSingle h (length ks) (length rs)
    → Added hs ns ps more ms qs (entry_of h ks rs)
added_to {hs} {h} {ns} {ps} ks rs b hm nm pm is = grind (arith, unpacked-push, sum_by_push, length-append, length_push)

-- these are what is left without a last head of one entry
pub dropped_to : {hs all : List Head} {ns ms : List ℕ} {ps qs : List Entry} (h : Head) (n p : ℕ)
    → IsBalanced all ns ps → all ≡ hs ++ h ∷ [] → ms ≡ take n ns → qs ≡ take p ps → further_of h ≡ 0
    → n ≡ length ns - numbers_of h → p ≡ length ps - plain_of h
    → Added hs ms qs all ns ps (entry_of h (drop n ns) (drop p ps))
dropped_to {hs} {ns} {ps} h n p b ha nm pm single ln lp =
    let c : IsBalanced (hs ++ h ∷ []) ns ps = subst (λ gs. IsBalanced gs ns ps) ha b in
    let numbers = sum_by_push numbers_of hs h in
    let plain = sum_by_push plain_of hs h in
    let before : IsBalanced hs (take n ns) (take p ps) = record {
      numbers = omega (arith, c.numbers, numbers, length-take-le n ns (omega (arith, ln)));
      plain = omega (arith, c.plain, plain, length-take-le p ps (omega (arith, lp)));
    } in
    let is : IsSingle h (length (drop n ns)) (length (drop p ps)) = record {
      further = single;
      numbers = omega (arith, c.numbers, numbers, length-drop n ns);
      plain = omega (arith, c.plain, plain, length-drop p ps);
    } in
    rw (nm, pm) (added_to (drop n ns) (drop p ps) before ha (sym (take-append-drop n ns)) (sym (take-append-drop p ps)) is)

longer_row : (h : Head) (e : Entry) (l : Head) (ns : List ℕ) (ps : List Entry) → IsLonger h e l
    → packed_entries l ns ps ≡ packed_entries h ns ps ++ e ∷ []
longer_row h e l ns ps is = grind (arith, ap₂, replicate_more)

longer_last : (hs : List Head) (h : Head) (e : Entry) (l : Head) (ns : List ℕ) (ps : List Entry) → IsLonger h e l
    → unpacked (hs ++ l ∷ []) ns ps ≡ unpacked (hs ++ h ∷ []) ns ps ++ e ∷ []
longer_last [] h e l ns ps is = grind (arith, append-nil, longer_row)
longer_last (g ∷ hs) h e l ns ps is = grind (arith, append_assoc, longer_last hs h e l)

-- a head that takes as many numbers and plain entries in another's place
balanced_instead : {all more : List Head} {ns : List ℕ} {ps : List Entry} (hs : List Head) (g h : Head)
    → all ≡ hs ++ g ∷ [] → more ≡ hs ++ h ∷ [] → numbers_of h ≡ numbers_of g → plain_of h ≡ plain_of g
    → IsBalanced all ns ps → IsBalanced more ns ps
balanced_instead hs g h ha hm n p b = grind (arith, sum_by_push)

-- with a longer last row
pub lengthened_to : {all more : List Head} {h l : Head} {e : Entry} {ns : List ℕ} {ps : List Entry} (hs : List Head)
    → IsBalanced all ns ps → all ≡ hs ++ h ∷ [] → more ≡ hs ++ l ∷ [] → IsLonger h e l
    → Added all ns ps more ns ps e
lengthened_to {all} {more} {h} {l} {e} {ns} {ps} hs b ha hm is =
    let entries : unpacked more ns ps ≡ unpacked all ns ps ++ e ∷ [] = rw (ha, hm) (longer_last hs h e l ns ps is) in
    record {
      before = b;
      after = balanced_instead hs h l ha hm is.numbers is.plain b;
      entries = entries;
      count = ap length entries ∙ length_push (unpacked all ns ps) e;
    }

pub shortened_to : {all more : List Head} {h l : Head} {e : Entry} {ns : List ℕ} {ps : List Entry} (hs : List Head)
    → IsBalanced more ns ps → all ≡ hs ++ h ∷ [] → more ≡ hs ++ l ∷ [] → IsLonger h e l
    → Added all ns ps more ns ps e
shortened_to {h} {l} hs b ha hm is =
    lengthened_to hs (balanced_instead hs l h hm ha (sym is.numbers) (sym is.plain) b) ha hm is

-- the entries before are those after without the last
pub without_last : {hs more : List Head} {ns ms : List ℕ} {ps qs : List Entry} {e : Entry}
    → Added hs ns ps more ms qs e → unpacked hs ns ps ≡ take (length (unpacked more ms qs) - 1) (unpacked more ms qs)
without_last {hs} {more} {ns} {ms} {ps} {qs} {e} a = grind (arith, take_at)
