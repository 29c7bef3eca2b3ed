-- How many positions were published and taken, together: the sum grows as its parts do. And in a row with more instructions of a party than may be
-- stuck in a row more moves, or the party finds that it has to wait, which is so until something moves.
use Rattle.std.proofs.Common.{◌+◌, ◌<◌, ◌≤◌, ◌≡◌, ◌≢◌, inl, inr, refl, arith, ℕ, ◌⊎◌, Bool, true, false, List, [], ◌∷◌, ◌++◌, sym, ◌∙◌, ap, subst, append_assoc}
use Rattle.std.proofs.Common.{append-nil}
use Rattle.std.proofs.lemmas.Bool.{cases_lt, cases_eq}
use Rattle.queue_parties.specs.Parties.{Party, the_sender, the_receiver, other, QueueCounts, count}
use Rattle.queue_parties.proofs.Parties.{Grows}
use Rattle.queue_progress.specs.Rows.{all_moved, executed, EachAfter}
use Rattle.step_machine.specs.declared.events.Entry.{Entry}
use Rattle.step_machine.specs.Names.{OpeningValue, history_of, is_own, WellFormed}
use Rattle.step_machine.proofs.OwnRuns.{kept-front}

all-parts : (p : Party) (c : QueueCounts) → all_moved c ≡ count p c + count (other p) c
all-parts the_sender c = refl
all-parts the_receiver c = omega arith

module _ (c d : QueueCounts) (grows : Grows c d) where
  pub all-grow : all_moved c ≤ all_moved d
  all-grow = let sent : c.published ≤ d.published = grows.counts the_sender in let took : c.taken ≤ d.taken = grows.counts the_receiver in
      omega (arith, sent, took)

  module _ (p : Party) where
    sums : (all_moved c ≡ count p c + count (other p) c) × (all_moved d ≡ count p d + count (other p) d) × (count p c ≤ count p d)
        × (count (other p) c ≤ count (other p) d)
    sums = (all-parts p c, all-parts p d, grows.counts p, grows.counts (other p))

    pub all-further : count p d ≢ count p c → all_moved c < all_moved d
    all-further moves = elim (cases_lt (count p c) (count p d)) [
      | inl less ↦ (let s = sums in omega (arith, s.0, s.1, s.3, less))
      | inr more ↦ absurd (moves (let s = sums in omega (arith, s.2, more)))
    ]

    -- where the sum doesn't grow, neither does a part
    pub same-part : all_moved d ≤ all_moved c → count p d ≡ count p c
    same-part same = let s = sums in omega (arith, s.0, s.1, s.2, s.3, same)

-- ---- rows

-- h is party p's hart; its entries that leave its count are stuck, or find that it has to wait
module _ (B M : ℕ) (o : OpeningValue) (h : ℕ) (p : Party) (counted : List Entry → QueueCounts)
    (grows : (es fs : List Entry) → Grows (counted es) (counted (es ++ fs))) (IsStuck Waits : List Entry → Entry → Type 0)
    (either : (es : List Entry) (e : Entry) → is_own h e ≡ true → count p (counted (es ++ e ∷ [])) ≡ count p (counted es) → IsStuck es e ⊎ Waits es e) where
  abbrev Goes : List Entry → Entry → Type 0
  Goes es e = (count p (counted (es ++ e ∷ [])) ≢ count p (counted es)) ⊎ Waits es e

  -- the first entry of the party's that isn't stuck
  record Found (es row : List Entry) : Type 0 where
    front : List Entry
    it : Entry
    back : List Entry
    all : row ≡ front ++ it ∷ back
    mine : is_own h it ≡ true
    how : Goes (es ++ front) it

  find : (row es : List Entry) → EachAfter h IsStuck es row ⊎ Found es row
  find [] es = inl tt
  find (e ∷ row) es = by (is_own h e) refl (cases_eq (count p (counted (es ++ e ∷ []))) (count p (counted es))) (find row (es ++ e ∷ []))
    where
      further : (is_own h e ≡ true → IsStuck es e) → EachAfter h IsStuck (es ++ e ∷ []) row ⊎ Found (es ++ e ∷ []) row
          → EachAfter h IsStuck es (e ∷ row) ⊎ Found es (e ∷ row)
      further stuck (inl rest) = inl (stuck, rest)
      further stuck (inr f) = inr (record {
        front = e ∷ f.front;
        it = f.it;
        back = f.back;
        all = ap (λ fs. e ∷ fs) f.all;
        mine = f.mine;
        how = subst (λ fs. Goes fs f.it) (append_assoc es (e ∷ []) f.front) f.how;
      })

      found : is_own h e ≡ true → Goes es e → Found es (e ∷ row)
      found on how = record { front = []; it = e; back = row; all = refl; mine = on; how = subst (λ fs. Goes fs e) (sym (append-nil es)) how }

      by : (b : Bool) → is_own h e ≡ b → (count p (counted (es ++ e ∷ [])) ≡ count p (counted es)) ⊎ (count p (counted (es ++ e ∷ [])) ≢ count p (counted es))
          → EachAfter h IsStuck (es ++ e ∷ []) row ⊎ Found (es ++ e ∷ []) row → EachAfter h IsStuck es (e ∷ row) ⊎ Found es (e ∷ row)
      by false off same rest = further (λ on. absurd (let no : false ≡ true = sym off ∙ on in cc)) rest
      by true on (inr moves) rest = inr (found on (inl moves))
      by true on (inl stays) rest = elim (either es e on stays) [
        | inl stuck ↦ further (λ own. stuck) rest
        | inr waits ↦ inr (found on (inr waits))
      ]

  -- where what landed at the start says why it has to wait, as long as nothing moves: by the counts
  module _ (HaveLanded : List Entry → Type 0) (IsWhy : (mine theirs : ℕ) → Type 0)
      (why : (es front : List Entry) (e : Entry) → WellFormed B M (history_of o ((es ++ front) ++ e ∷ [])) → HaveLanded es
      → all_moved (counted (es ++ front)) ≤ all_moved (counted es) → is_own h e ≡ true → Waits (es ++ front) e
      → IsWhy (count p (counted (es ++ front))) (count (other p) (counted (es ++ front)))) (N : ℕ)
      (short : (es row : List Entry) → WellFormed B M (history_of o (es ++ row)) → EachAfter h IsStuck es row → executed h row ≤ N) where
    pub turn : (es row : List Entry) → WellFormed B M (history_of o (es ++ row)) → HaveLanded es → N < executed h row
        → (all_moved (counted es) < all_moved (counted (es ++ row))) ⊎ IsWhy (count p (counted es)) (count (other p) (counted es))
    turn es row run landed enough = by (find row es)
      where
        by : EachAfter h IsStuck es row ⊎ Found es row
            → (all_moved (counted es) < all_moved (counted (es ++ row))) ⊎ IsWhy (count p (counted es)) (count (other p) (counted es))
        by (inl stuck) = absurd (let few : executed h row ≤ N = short es row run stuck in omega (arith, few, enough))
        by (inr f) = at f.how (cases_lt (all_moved (counted es)) (all_moved (counted upto)))
          where
            upto : List Entry
            upto = es ++ f.front

            whole : ((es ++ f.front) ++ f.it ∷ []) ++ f.back ≡ es ++ row
            whole = append_assoc upto (f.it ∷ []) f.back ∙ append_assoc es f.front (f.it ∷ f.back) ∙ ap (λ fs. es ++ fs) (sym f.all)

            before : all_moved (counted es) ≤ all_moved (counted (es ++ f.front))
            before = all-grow (counted es) (counted upto) (grows es f.front)

            nexts : all_moved (counted (es ++ f.front)) ≤ all_moved (counted ((es ++ f.front) ++ f.it ∷ []))
            nexts = all-grow (counted upto) (counted (upto ++ f.it ∷ [])) (grows upto (f.it ∷ []))

            after : all_moved (counted ((es ++ f.front) ++ f.it ∷ [])) ≤ all_moved (counted (es ++ row))
            after = subst (λ fs. all_moved (counted (upto ++ f.it ∷ [])) ≤ all_moved (counted fs)) whole
                (all-grow (counted (upto ++ f.it ∷ [])) (counted ((upto ++ f.it ∷ []) ++ f.back)) (grows (upto ++ f.it ∷ []) f.back))

            at : Goes (es ++ f.front) f.it
                → (all_moved (counted es) < all_moved (counted (es ++ f.front))) ⊎ (all_moved (counted (es ++ f.front)) ≤ all_moved (counted es))
                → (all_moved (counted es) < all_moved (counted (es ++ row))) ⊎ IsWhy (count p (counted es)) (count (other p) (counted es))
            at how (inl more) = inl (omega (arith, more, nexts, after))
            at (inl moves) (inr same) = inl (
                let further : all_moved (counted (es ++ f.front)) < all_moved (counted ((es ++ f.front) ++ f.it ∷ [])) =
                all-further (counted upto) (counted (upto ++ f.it ∷ [])) (grows upto (f.it ∷ [])) p moves in
                omega (arith, before, further, after))
            at (inr waits) (inr same) = inr (
                subst (λ n. IsWhy n (count (other p) (counted es))) (same-part (counted es) (counted upto) (grows es f.front) p same)
                (subst (IsWhy (count p (counted upto))) (same-part (counted es) (counted upto) (grows es f.front) (other p) same)
                (why es f.front f.it (kept-front B M o (upto ++ f.it ∷ []) f.back (subst (λ fs. WellFormed B M (history_of o fs)) (sym whole) run))
                landed same f.mine waits)))
