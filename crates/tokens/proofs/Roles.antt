-- The run in which one hart plays a role: entry by entry it is legal, and memory is the same.
use Rattle.std.proofs.Common.{ℕ, ◌≤◌, ◌≡◌, Bool, true, false, if◌then◌else◌, Some, List, [], ◌∷◌, ◌++◌, length, refl, sym, ◌∙◌, ap, arith, ◌+◌, ◌<◌, ◌≢◌, ◌==◌}
use Rattle.std.proofs.Common.{◌⊎◌, inl, inr, Option, None, take, subst, append-nil, zero, suc, ◌&&◌, ◌||◌}
use Rattle.std.specs.Prelude.{unwrap_or, All}
use Rattle.std.proofs.lemmas.Bool.{and_parts, and_from, false_from_ne_true, cases_eq, eqb-true, eq-eqb}
use Rattle.std.proofs.lemmas.List.Elements.{All-pop, All-head, All-tail, All-nil, All-cons}
use Rattle.memory.specs.declared.writes.Write.{Write}
use Rattle.memory.specs.Writes.{write, newest_of}
use Rattle.memory.proofs.Bytes.{joined-same}
use Rattle.step_machine.specs.declared.events.Entry.{Entry}
use Rattle.step_machine.specs.Names.{OpeningValue, history_of, store, exchange, land, access_of, hart_of, stored_by, landed_by, written_by, own_stores, lands}
use Rattle.step_machine.specs.Names.{pending, landed, opening_byte, memory_byte, read_byte, read, AllowedBy, Allowed, Legal}
use Rattle.step_machine.proofs.{LegalAfter-append, balanced, landed-last}
use Rattle.step_machine.specs.declared.events.Entry.TheVariants as entry
use Rattle.store_buffers.proofs.Effects.{pending-quiet}
use Rattle.queue_parties.specs.Parties.{QueueCounts, the_sender, the_receiver}
use Rattle.queue_parties.specs.Positions.{IsPrefix}
use Rattle.slot_queue.specs.Queues.{Queue}
use Rattle.slot_queue.specs.Laws.{FollowsOwnership, LeavesSlotsAt, records_by, records_waiting}
use Rattle.slot_queue.proofs.Records.{in_order}
use Rattle.tokens.specs.Tokens.{TokenLayout, lays, Holders, laid, taken_by, MayWrite, holders_next, May, holders, KeepsTokens, FollowsTokens, any_below}
use Rattle.tokens.specs.Tokens.{covers_place, number_laid, lays_in}
use Rattle.tokens.specs.Roles.{is_holder, laid_first, in_memory, as_role, played, as_one_hart, FollowsRole, only, HoldsApart, as_two_harts, FollowsRoles}
use Rattle.tokens.proofs.Held.{owned, IsStill, nothing_still, load_still, fence_still, after-still, memory, memory-snoc, front, balanced_front, allowed_last}
use Rattle.tokens.proofs.Held.{may_last, held_at, of-runs, after-store, after-land, after-other, all_laid, laid-left, laid-from, all-from, KeepsWrites}
use Rattle.tokens.proofs.Held.{none-some, two-harts, same-hart, laid-gone, taken-left, Held, found_free, took, may_then, theirs_swapped, left_by, any-from}
use Rattle.tokens.proofs.Held.{taken-here}

-- ---- the pending stores of a hart up to the one by which it laid a token down, and those after it

module _ (q : TokenLayout) (s : ℕ) where
  abbrev pub upto : List Write → List Write
  upto [] = []
  upto (w ∷ ws) = if lays q w s then w ∷ [] else w ∷ upto ws

  abbrev pub beyond : List Write → List Write
  beyond [] = []
  beyond (w ∷ ws) = if lays q w s then ws else beyond ws

  pub upto-yes : (w : Write) (ws : List Write) → lays q w s ≡ true → upto (w ∷ ws) ≡ w ∷ []
  upto-yes w ws yea = ap (λ b. if b then w ∷ [] else w ∷ upto ws) yea

  pub upto-not : (w : Write) (ws : List Write) → lays q w s ≡ false → upto (w ∷ ws) ≡ w ∷ upto ws
  upto-not w ws nay = ap (λ b. if b then w ∷ [] else w ∷ upto ws) nay

  pub beyond-yes : (w : Write) (ws : List Write) → lays q w s ≡ true → beyond (w ∷ ws) ≡ ws
  beyond-yes w ws yea = ap (λ b. if b then ws else beyond ws) yea

  pub beyond-not : (w : Write) (ws : List Write) → lays q w s ≡ false → beyond (w ∷ ws) ≡ beyond ws
  beyond-not w ws nay = ap (λ b. if b then ws else beyond ws) nay

  pub upto-short : (ws : List Write) → length (upto ws) ≤ length ws
  upto-short [] = omega arith
  upto-short (w ∷ ws) = by (lays q w s) (upto-short ws)
    where
      by : (b : Bool) → length (upto ws) ≤ length ws → length (if b then w ∷ [] else w ∷ upto ws) ≤ length (w ∷ ws)
      by true le = omega arith
      by false le = omega (arith, le)

  pub beyond-short : (ws : List Write) → length (beyond ws) ≤ length ws
  beyond-short [] = omega arith
  beyond-short (w ∷ ws) = by (lays q w s) (beyond-short ws)
    where
      by : (b : Bool) → length (beyond ws) ≤ length ws → length (if b then ws else beyond ws) ≤ length (w ∷ ws)
      by true le = omega arith
      by false le = omega (arith, le)

  -- a hart that holds it has laid it down by none
  pub held-none : (w : Write) (ws : List Write) (m : Holders) (g : ℕ) → all_laid q (w ∷ ws) m s ≡ Some g → lays q w s ≡ false
  held-none w ws m g is = (laid-from q w m s g (all-from q ws (laid q w m) s g is)).0

  pub upto-all : (ws : List Write) (m : Holders) (g : ℕ) → all_laid q ws m s ≡ Some g → upto ws ≡ ws
  upto-all [] m g is = refl
  upto-all (w ∷ ws) m g is = upto-not w ws (held-none w ws m g is) ∙ ap (λ vs. w ∷ vs) (upto-all ws (laid q w m) g is)

  pub beyond-none : (ws : List Write) (m : Holders) (g : ℕ) → all_laid q ws m s ≡ Some g → beyond ws ≡ []
  beyond-none [] m g is = refl
  beyond-none (w ∷ ws) m g is = beyond-not w ws (held-none w ws m g is) ∙ beyond-none ws (laid q w m) g is

  one : (w : Write) → upto (w ∷ []) ≡ w ∷ []
  one w = by (lays q w s)
    where
      by : (b : Bool) → (if b then w ∷ [] else w ∷ []) ≡ w ∷ []
      by true = refl
      by false = refl

  abbrev empty : List Write
  empty = []

  none : (w : Write) → beyond (w ∷ []) ≡ []
  none w = by (lays q w s)
    where
      by : (b : Bool) → (if b then [] else []) ≡ empty
      by true = refl
      by false = refl

  -- so its next store is within,
  pub upto-more : (ws : List Write) (w : Write) (m : Holders) (g : ℕ) → all_laid q ws m s ≡ Some g → upto (ws ++ w ∷ []) ≡ ws ++ w ∷ []
  upto-more [] w m g is = one w
  upto-more (v ∷ ws) w m g is = upto-not v (ws ++ w ∷ []) (held-none v ws m g is) ∙ ap (λ vs. v ∷ vs) (upto-more ws w (laid q v m) g is)

  pub beyond-still : (ws : List Write) (w : Write) (m : Holders) (g : ℕ) → all_laid q ws m s ≡ Some g → beyond (ws ++ w ∷ []) ≡ []
  beyond-still [] w m g is = none w
  beyond-still (v ∷ ws) w m g is = beyond-not v (ws ++ w ∷ []) (held-none v ws m g is) ∙ beyond-still ws w (laid q v m) g is

  -- and that of a hart that has laid it down is beyond
  pub upto-kept : (ws : List Write) (w : Write) (m : Holders) (g : ℕ) → m s ≡ Some g → (all_laid q ws m s ≡ Some g → ⊥) → upto (ws ++ w ∷ []) ≡ upto ws
  upto-kept [] w m g is nay = absurd (nay is)
  upto-kept (v ∷ ws) w m g is nay = by (lays q v s) refl (λ off. upto-kept ws w (laid q v m) g (laid-left q v m s off ∙ is) nay)
    where
      by : (b : Bool) → lays q v s ≡ b → (lays q v s ≡ false → upto (ws ++ w ∷ []) ≡ upto ws) → upto (v ∷ (ws ++ w ∷ [])) ≡ upto (v ∷ ws)
      by true on more = upto-yes v (ws ++ w ∷ []) on ∙ sym (upto-yes v ws on)
      by false off more = upto-not v (ws ++ w ∷ []) off ∙ ap (λ vs. v ∷ vs) (more off) ∙ sym (upto-not v ws off)

  pub beyond-more : (ws : List Write) (w : Write) (m : Holders) (g : ℕ) → m s ≡ Some g → (all_laid q ws m s ≡ Some g → ⊥)
      → beyond (ws ++ w ∷ []) ≡ beyond ws ++ w ∷ []
  beyond-more [] w m g is nay = absurd (nay is)
  beyond-more (v ∷ ws) w m g is nay = by (lays q v s) refl (λ off. beyond-more ws w (laid q v m) g (laid-left q v m s off ∙ is) nay)
    where
      by : (b : Bool) → lays q v s ≡ b → (lays q v s ≡ false → beyond (ws ++ w ∷ []) ≡ beyond ws ++ w ∷ [])
          → beyond (v ∷ (ws ++ w ∷ [])) ≡ beyond (v ∷ ws) ++ w ∷ []
      by true on more = beyond-yes v (ws ++ w ∷ []) on ∙ ap (λ vs. vs ++ w ∷ []) (sym (beyond-yes v ws on))
      by false off more = beyond-not v (ws ++ w ∷ []) off ∙ more off ∙ ap (λ vs. vs ++ w ∷ []) (sym (beyond-not v ws off))

-- ---- a run in which one hart plays a role, entry by entry: it is legal, and memory is the same

pub holder-true : (x : Option ℕ) (h : ℕ) → is_holder x h ≡ true → x ≡ Some h
holder-true None h nay = absurd (let wrong : false ≡ true = nay in cc)
holder-true (Some g) h is = ap Some (eqb-true g h is)

pub holder-false : (x : Option ℕ) (h : ℕ) → is_holder x h ≡ false → x ≡ Some h → ⊥
holder-false None h nay is = none-some None h refl is
holder-false (Some g) h nay is = let wrong : true ≡ false = sym (eq-eqb g h (same-hart g h is)) ∙ nay in cc

holds-or : (x : Option ℕ) (h : ℕ) → (x ≡ Some h) ⊎ (x ≡ Some h → ⊥)
holds-or None h = inr (none-some None h refl)
holds-or (Some g) h = elim (cases_eq g h) [ inl same ↦ inl (ap Some same) | inr far ↦ inr (λ is. far (same-hart g h is)) ]

-- what is pending of the role, and of the harts, in the run R with the role, where es is the run without, and m says whose the token is in
-- memory
pub record Turn (q : TokenLayout) (s V : ℕ) (B : ℕ) (o : OpeningValue) (es R : List Entry) (m : Holders) : Type 0 where
  pub legal : Legal B (history_of o R)
  pub landings : landed R ≡ landed es
  pub role : (g : ℕ) → m s ≡ Some g → pending V R ≡ upto q s (pending g es)
  pub nobody : m s ≡ None → pending V R ≡ []
  pub rest : (g : ℕ) → g ≢ V → m s ≡ Some g → pending g R ≡ beyond q s (pending g es)
  pub others : (g : ℕ) → g ≢ V → (m s ≡ Some g → ⊥) → pending g R ≡ pending g es

module _ (q : TokenLayout) (s V B : ℕ) (o : OpeningValue) (es R : List Entry) (m : Holders) (t : Turn q s V B o es R m) where
  pub same_memory : (x : ℕ) → memory_byte o R x ≡ memory_byte o es x
  same_memory x = ap (λ ws. unwrap_or (newest_of x None ws) (opening_byte o x)) t.landings

  pub same_byte : (g h x : ℕ) → pending g R ≡ pending h es → read_byte o R g x ≡ read_byte o es h x
  same_byte g h x same = ap (λ ws. unwrap_or (newest_of x None ws) (memory_byte o R x)) same ∙ ap (unwrap_or (newest_of x None (pending h es))) (same_memory x)

  pub same_read : (g h a width : ℕ) → pending g R ≡ pending h es → read o R g a width ≡ read o es h a width
  same_read g h a width same = joined-same (λ i. read_byte o R g (a + i)) (λ i. read_byte o es h (a + i)) width (λ i lt. same_byte g h (a + i) same)

  balance : (g : ℕ) → lands g R ≤ length (own_stores g R)
  balance g = balanced B (history_of o R) g t.legal

  goes_on : (d : Entry) → Allowed B o R d → Legal B (history_of o (R ++ d ∷ []))
  goes_on d allowed = LegalAfter-append B o [] R (d ∷ []) t.legal (allowed, tt)

  module _ (c : Holders) (w : Held q o es c m) where
    -- a hart that holds the token has pending what the role has, and no more
    pub all_of_role : (h : ℕ) → c s ≡ Some h → pending V R ≡ pending h es
    all_of_role h is =
        let there = w.to h s is in
        t.role h (owned q o es c m w h s is) ∙ upto-all q s (pending h es) m h there

    pub reads_same : (h x : ℕ) → c s ≡ Some h → read_byte o R V x ≡ read_byte o es h x
    reads_same h x is = same_byte V h x (all_of_role h is)

    module _ (e : Entry) (le : (g : ℕ) → lands g es ≤ length (own_stores g es)) (allowed : Allowed B o es e) (new : hart_of e ≢ V) where
      abbrev Next : Entry → Holders → Type 0
      Next d n = Turn q s V B o (es ++ e ∷ []) (R ++ d ∷ []) n

      -- neither stores, lands nor writes
      pub quiet : (d : Entry) → Allowed B o R d → IsStill (access_of e) → IsStill (access_of d) → Next d m
      quiet d may k l = record {
        legal = goes_on d may;
        landings = landed-last R d ∙ ap (λ ws. landed R ++ ws) (l.wrote (take 1 (pending (hart_of d) R))) ∙ append-nil (landed R) ∙ t.landings
            ∙ sym (append-nil (landed es)) ∙ ap (λ ws. landed es ++ ws) (sym (k.wrote (take 1 (pending (hart_of e) es)))) ∙ sym (landed-last es e);
        role = λ g is. after V ∙ t.role g is ∙ ap (upto q s) (sym (before g));
        nobody = λ is. after V ∙ t.nobody is;
        rest = λ g other is. after g ∙ t.rest g other is ∙ ap (beyond q s) (sym (before g));
        others = λ g other is. after g ∙ t.others g other is ∙ sym (before g);
      }
        where
          before : (g : ℕ) → pending g (es ++ e ∷ []) ≡ pending g es
          before g = after-still es e le k g

          after : (g : ℕ) → pending g (R ++ d ∷ []) ≡ pending g R
          after g = after-still R d balance l g

      -- ---- a store

      module _ (v : Write) (does : access_of e ≡ store v) (d : Entry) (k : ℕ) (by_hart : hart_of d ≡ k) (does2 : access_of d ≡ store v) where
        room : length (pending (hart_of e) es) < B
        room = subst (AllowedBy B (pending (hart_of e) es) (read o es (hart_of e))) does allowed

        may_too : length (pending k R) ≤ length (pending (hart_of e) es) → Allowed B o R d
        may_too short = grind arith

        same_landings : landed (R ++ d ∷ []) ≡ landed (es ++ e ∷ [])
        same_landings = grind (arith, landed-last, append-nil)

      pub by_role : (v : Write) → access_of e ≡ store v → (d : Entry) → hart_of d ≡ V → access_of d ≡ store v → c s ≡ Some (hart_of e) → Next d m
      by_role v does d by_hart does2 holds = record {
        legal = goes_on d (may_too v does d V by_hart does2 (let same = ap length (all_of_role (hart_of e) holds) in omega (arith, same)));
        landings = same_landings v does d V by_hart does2;
        role = λ g is. here g (two-harts (m s) g (hart_of e) is held);
        nobody = λ is. absurd (none-some (m s) (hart_of e) is held);
        rest = λ g other is. resting g other (two-harts (m s) g (hart_of e) is held);
        others = λ g other is. after-other R d balance V by_hart g (λ same. other (sym same)) ∙ t.others g other is
            ∙ sym (after-other es e le (hart_of e) refl g (λ same. is (held ∙ ap Some same)));
      }
        where
          there : all_laid q (pending (hart_of e) es) m s ≡ Some (hart_of e)
          there = w.to (hart_of e) s holds

          held : m s ≡ Some (hart_of e)
          held = owned q o es c m w (hart_of e) s holds

          here : (g : ℕ) → g ≡ hart_of e → pending V (R ++ d ∷ []) ≡ upto q s (pending g (es ++ e ∷ []))
          here g is = after-store R d balance V by_hart v does2 ∙ ap (λ ws. ws ++ v ∷ []) (all_of_role (hart_of e) holds)
              ∙ sym (upto-more q s (pending (hart_of e) es) v m (hart_of e) there) ∙ ap (upto q s) (sym (after-store es e le (hart_of e) refl v does))
              ∙ ap (λ k. upto q s (pending k (es ++ e ∷ []))) (sym is)

          resting : (g : ℕ) → g ≢ V → g ≡ hart_of e → pending g (R ++ d ∷ []) ≡ beyond q s (pending g (es ++ e ∷ []))
          resting g other is = after-other R d balance V by_hart g (λ same. other (sym same)) ∙ t.rest g other (held ∙ ap Some (sym is))
              ∙ ap (λ k. beyond q s (pending k es)) is ∙ beyond-none q s (pending (hart_of e) es) m (hart_of e) there
              ∙ sym (beyond-still q s (pending (hart_of e) es) v m (hart_of e) there) ∙ ap (beyond q s) (sym (after-store es e le (hart_of e) refl v does))
              ∙ ap (λ k. beyond q s (pending k (es ++ e ∷ []))) (sym is)

      pub by_other : (v : Write) → access_of e ≡ store v → (d : Entry) → hart_of d ≡ hart_of e → access_of d ≡ store v → (c s ≡ Some (hart_of e) → ⊥) → Next d m
      by_other v does d by_hart does2 free = record {
        legal = goes_on d (may_too v does d (hart_of e) by_hart does2 (short (holds-or (m s) (hart_of e))));
        landings = same_landings v does d (hart_of e) by_hart does2;
        role = λ g is. after-other R d balance (hart_of e) by_hart V new ∙ t.role g is ∙ cut g is (cases_eq (hart_of e) g);
        nobody = λ is. after-other R d balance (hart_of e) by_hart V new ∙ t.nobody is;
        rest = λ g other is. resting g other is (cases_eq (hart_of e) g);
        others = λ g other is. same g other is (cases_eq (hart_of e) g);
      }
        where
          laid_down : m s ≡ Some (hart_of e) → all_laid q (pending (hart_of e) es) m s ≡ Some (hart_of e) → ⊥
          laid_down is there = free (w.from (hart_of e) s there)

          short : (m s ≡ Some (hart_of e)) ⊎ (m s ≡ Some (hart_of e) → ⊥) → length (pending (hart_of e) R) ≤ length (pending (hart_of e) es)
          short (inl held) = let same = ap length (t.rest (hart_of e) new held) in let le = beyond-short q s (pending (hart_of e) es) in omega (arith, same, le)
          short (inr not) = let same = ap length (t.others (hart_of e) new not) in omega (arith, same)

          cut : (g : ℕ) → m s ≡ Some g → (hart_of e ≡ g) ⊎ (hart_of e ≢ g) → upto q s (pending g es) ≡ upto q s (pending g (es ++ e ∷ []))
          cut g is (inl here) =
              let held : m s ≡ Some (hart_of e) = is ∙ ap Some (sym here) in
              ap (λ k. upto q s (pending k es)) (sym here) ∙ sym (upto-kept q s (pending (hart_of e) es) v m (hart_of e) held (laid_down held))
              ∙ ap (upto q s) (sym (after-store es e le (hart_of e) refl v does)) ∙ ap (λ k. upto q s (pending k (es ++ e ∷ []))) here
          cut g is (inr other) = ap (upto q s) (sym (after-other es e le (hart_of e) refl g other))

          resting : (g : ℕ) → g ≢ V → m s ≡ Some g → (hart_of e ≡ g) ⊎ (hart_of e ≢ g) → pending g (R ++ d ∷ []) ≡ beyond q s (pending g (es ++ e ∷ []))
          resting g far is (inl here) =
              let held : m s ≡ Some (hart_of e) = is ∙ ap Some (sym here) in
              ap (λ k. pending k (R ++ d ∷ [])) (sym here) ∙ after-store R d balance (hart_of e) by_hart v does2
              ∙ ap (λ ws. ws ++ v ∷ []) (t.rest (hart_of e) new held)
              ∙ sym (beyond-more q s (pending (hart_of e) es) v m (hart_of e) held (laid_down held))
              ∙ ap (beyond q s) (sym (after-store es e le (hart_of e) refl v does)) ∙ ap (λ k. beyond q s (pending k (es ++ e ∷ []))) here
          resting g far is (inr other) = after-other R d balance (hart_of e) by_hart g other ∙ t.rest g far is
              ∙ ap (beyond q s) (sym (after-other es e le (hart_of e) refl g other))

          same : (g : ℕ) → g ≢ V → (m s ≡ Some g → ⊥) → (hart_of e ≡ g) ⊎ (hart_of e ≢ g) → pending g (R ++ d ∷ []) ≡ pending g (es ++ e ∷ [])
          same g far not (inl here) = ap (λ k. pending k (R ++ d ∷ [])) (sym here) ∙ after-store R d balance (hart_of e) by_hart v does2
              ∙ ap (λ ws. ws ++ v ∷ []) (t.others (hart_of e) new (λ held. not (held ∙ ap Some here)))
              ∙ sym (after-store es e le (hart_of e) refl v does) ∙ ap (λ k. pending k (es ++ e ∷ [])) here
          same g far not (inr other) = after-other R d balance (hart_of e) by_hart g other ∙ t.others g far not
              ∙ sym (after-other es e le (hart_of e) refl g other)

      -- ---- a landing of the oldest store v

      module _ (does : access_of e ≡ land) (v : Write) (later : List Write) (oldest : pending (hart_of e) es ≡ v ∷ later) (d : Entry) (k : ℕ)
          (by_hart : hart_of d ≡ k) (does2 : access_of d ≡ land) (later2 : List Write) (oldest2 : pending k R ≡ v ∷ later2) where
        may_land : Allowed B o R d
        may_land = grind arith

        landed_both : landed (R ++ d ∷ []) ≡ landed (es ++ e ∷ [])
        landed_both = grind (arith, landed-last)

      -- of the role
      module _ (does : access_of e ≡ land) (v : Write) (later : List Write) (oldest : pending (hart_of e) es ≡ v ∷ later) (held : m s ≡ Some (hart_of e))
          (d : Entry) (by_hart : hart_of d ≡ V) (does2 : access_of d ≡ land) where
        roles : pending V R ≡ upto q s (v ∷ later)
        roles = t.role (hart_of e) held ∙ ap (upto q s) oldest

        pub lays_down : lays q v s ≡ true → Next d (laid q v m)
        lays_down yea =
            let first : pending V R ≡ v ∷ [] = roles ∙ upto-yes q s v later yea in
            record {
              legal = goes_on d (may_land does v later oldest d V by_hart does2 [] first);
              landings = landed_both does v later oldest d V by_hart does2 [] first;
              role = λ g is. absurd (none-some (laid q v m s) g (laid-gone q v m s yea) is);
              nobody = λ is. after-land R d balance V by_hart v [] does2 first;
              rest = λ g far is. absurd (none-some (laid q v m s) g (laid-gone q v m s yea) is);
              others = λ g far is. after-other R d balance V by_hart g (λ same. far (sym same))
                  ∙ all_else g far (cases_eq (hart_of e) g) first;
            }
          where
            all_else : (g : ℕ) → g ≢ V → (hart_of e ≡ g) ⊎ (hart_of e ≢ g) → pending V R ≡ v ∷ [] → pending g R ≡ pending g (es ++ e ∷ [])
            all_else g far (inl here) first = ap (λ k. pending k R) (sym here) ∙ t.rest (hart_of e) new held ∙ ap (beyond q s) oldest
                ∙ beyond-yes q s v later yea ∙ sym (after-land es e le (hart_of e) refl v later does oldest) ∙ ap (λ k. pending k (es ++ e ∷ [])) here
            all_else g far (inr other) first = t.others g far (λ is. other (two-harts (m s) (hart_of e) g held is))
                ∙ sym (after-other es e le (hart_of e) refl g other)

        pub lays_none : lays q v s ≡ false → Next d (laid q v m)
        lays_none nay =
            let first : pending V R ≡ v ∷ upto q s later = roles ∙ upto-not q s v later nay in
            record {
              legal = goes_on d (may_land does v later oldest d V by_hart does2 (upto q s later) first);
              landings = landed_both does v later oldest d V by_hart does2 (upto q s later) first;
              role = λ g is. after-land R d balance V by_hart v (upto q s later) does2 first
                  ∙ ap (upto q s) (sym (after-land es e le (hart_of e) refl v later does oldest))
                  ∙ ap (λ k. upto q s (pending k (es ++ e ∷ []))) (two-harts (m s) (hart_of e) g held (still is));
              nobody = λ is. absurd (none-some (m s) (hart_of e) (sym (laid-left q v m s nay) ∙ is) held);
              rest = λ g far is. after-other R d balance V by_hart g (λ same. far (sym same))
                  ∙ resting g (two-harts (m s) (hart_of e) g held (still is)) first;
              others = λ g far is. after-other R d balance V by_hart g (λ same. far (sym same))
                  ∙ t.others g far (λ there. is (laid-left q v m s nay ∙ there))
                  ∙ sym (after-other es e le (hart_of e) refl g (λ same. is (laid-left q v m s nay ∙ held ∙ ap Some same)));
            }
          where
            still : {g : ℕ} → laid q v m s ≡ Some g → m s ≡ Some g
            still is = sym (laid-left q v m s nay) ∙ is

            resting : (g : ℕ) → hart_of e ≡ g → pending V R ≡ v ∷ upto q s later → pending g R ≡ beyond q s (pending g (es ++ e ∷ []))
            resting g here first = ap (λ k. pending k R) (sym here) ∙ t.rest (hart_of e) new held ∙ ap (beyond q s) oldest
                ∙ beyond-not q s v later nay ∙ ap (beyond q s) (sym (after-land es e le (hart_of e) refl v later does oldest))
                ∙ ap (λ k. beyond q s (pending k (es ++ e ∷ []))) here

      -- of another hart
      pub lands_free : (does : access_of e ≡ land) (v : Write) (later : List Write) (oldest : pending (hart_of e) es ≡ v ∷ later)
          → (m s ≡ Some (hart_of e) → ⊥) → (d : Entry) → hart_of d ≡ hart_of e → access_of d ≡ land → Next d (laid q v m)
      lands_free does v later oldest free d by_hart does2 = record {
        legal = goes_on d (may_land does v later oldest d (hart_of e) by_hart does2 later first);
        landings = landed_both does v later oldest d (hart_of e) by_hart does2 later first;
        role = λ g is. away V new ∙ t.role g (still g is) ∙ ap (upto q s) (sym (left_there g (λ same. free (still g is ∙ ap Some (sym same)))));
        nobody = λ is. away V new ∙ t.nobody (sym (laid-left q v m s not_laid) ∙ is);
        rest = λ g far is. away g (λ same. free (still g is ∙ ap Some (sym same))) ∙ t.rest g far (still g is)
            ∙ ap (beyond q s) (sym (left_there g (λ same. free (still g is ∙ ap Some (sym same)))));
        others = λ g far is. other_ones g far (λ there. is (laid-left q v m s not_laid ∙ there)) (cases_eq (hart_of e) g);
      }
        where
          first : pending (hart_of e) R ≡ v ∷ later
          first = t.others (hart_of e) new free ∙ oldest

          may_write : MayWrite q (hart_of e) m v
          may_write = (subst (KeepsWrites q (hart_of e) m) oldest (w.tidy (hart_of e))).0

          not_laid : lays q v s ≡ false
          not_laid = false_from_ne_true (lays q v s) (λ yea. free (may_write.held s yea))

          still : (g : ℕ) → laid q v m s ≡ Some g → m s ≡ Some g
          still g is = (laid-from q v m s g is).1

          away : (g : ℕ) → hart_of e ≢ g → pending g (R ++ d ∷ []) ≡ pending g R
          away g other = after-other R d balance (hart_of e) by_hart g other

          left_there : (g : ℕ) → hart_of e ≢ g → pending g (es ++ e ∷ []) ≡ pending g es
          left_there g other = after-other es e le (hart_of e) refl g other

          other_ones : (g : ℕ) → g ≢ V → (m s ≡ Some g → ⊥) → (hart_of e ≡ g) ⊎ (hart_of e ≢ g) → pending g (R ++ d ∷ []) ≡ pending g (es ++ e ∷ [])
          other_ones g far not (inl here) = grind (arith, after-land, balance)
          other_ones g far not (inr other) = away g other ∙ t.others g far not ∙ sym (left_there g other)

      -- ---- an AMO

      pub swapped : (a old new_word : ℕ) (does : access_of e ≡ exchange a old new_word)
          → MayWrite q (hart_of e) (taken_by q (hart_of e) (write a 4 old) c) (write a 4 new_word)
          → (d : Entry) (k : ℕ) → hart_of d ≡ k → access_of d ≡ exchange a old new_word → pending k R ≡ []
          → Next d (laid q (write a 4 new_word) (taken_by q (hart_of e) (write a 4 old) m))
      swapped a old new_word does may d k by_hart does2 empty = record {
        legal = goes_on d (subst (λ h. AllowedBy B (pending h R) (read o R h) (access_of d)) (sym by_hart)
            (subst (AllowedBy B (pending k R) (read o R k)) (sym does2)
            (empty, here.1 ∙ sym (same_read k (hart_of e) a 4 (empty ∙ sym here.0)))));
        landings = landed-last R d ∙ ap (λ ws. landed R ++ ws) (ap (written_by (take 1 (pending (hart_of d) R))) does2)
            ∙ ap (λ ws. ws ++ n ∷ []) t.landings
            ∙ ap (λ ws. landed es ++ ws) (sym (ap (written_by (take 1 (pending (hart_of e) es))) does)) ∙ sym (landed-last es e);
        role = λ g is. after V ∙ role_then g (took_it g (laid-from q n ms s g is).1) ∙ ap (upto q s) (sym (before g));
        nobody = λ is. after V ∙ none_then is (lays q n s) refl;
        rest = λ g far is. after g ∙ rest_then g far (took_it g (laid-from q n ms s g is).1) ∙ ap (beyond q s) (sym (before g));
        others = λ g far is. after g ∙ others_then g far is (holds-or (m s) g) ∙ sym (before g);
      }
        where
          n : Write
          n = write a 4 new_word

          p : Write
          p = write a 4 old

          ms : Holders
          ms = taken_by q (hart_of e) p m

          here : (pending (hart_of e) es ≡ []) × (old ≡ read o es (hart_of e) a 4)
          here = subst (AllowedBy B (pending (hart_of e) es) (read o es (hart_of e))) does allowed

          before : (g : ℕ) → pending g (es ++ e ∷ []) ≡ pending g es
          before g = pending-quiet es e g (le g) (ap (stored_by (hart_of e == g)) does) (ap (landed_by (hart_of e == g)) does)

          after : (g : ℕ) → pending g (R ++ d ∷ []) ≡ pending g R
          after g = pending-quiet R d g (balance g) (ap (stored_by (hart_of d == g)) does2) (ap (landed_by (hart_of d == g)) does2)

          took_it : (g : ℕ) → ms s ≡ Some g → ((lays q p s ≡ true) × (hart_of e ≡ g)) ⊎ ((lays q p s ≡ false) × (m s ≡ Some g))
          took_it g is = took B q o es e c m w allowed a old new_word does le may s g m is

          free : lays q p s ≡ true → m s ≡ None
          free yea = found_free B q o es e c m w allowed a old new_word does s yea

          role_then : (g : ℕ) → ((lays q p s ≡ true) × (hart_of e ≡ g)) ⊎ ((lays q p s ≡ false) × (m s ≡ Some g)) → pending V R ≡ upto q s (pending g es)
          role_then g (inl yea) = t.nobody (free yea.0) ∙ ap (upto q s) (sym (ap (λ h. pending h es) (sym yea.1) ∙ here.0))
          role_then g (inr nay) = t.role g nay.1

          -- a role that this hart has has nothing pending
          drained : m s ≡ Some (hart_of e) → pending V R ≡ []
          drained is = t.role (hart_of e) is ∙ ap (upto q s) here.0

          none_then : laid q n ms s ≡ None → (b : Bool) → lays q n s ≡ b → pending V R ≡ []
          none_then is true yea = elim (took_it (hart_of e) ((may_then B q o es e c m w allowed a old new_word does le may).held s yea)) [
            | inl found ↦ t.nobody (free found.0)
            | inr held ↦ drained held.1
          ]
          none_then is false nay = by (lays q p s) refl
            where
              by : (b : Bool) → lays q p s ≡ b → pending V R ≡ []
              by true yea = t.nobody (free yea)
              by false not = t.nobody (sym (taken-left q (hart_of e) p m s not) ∙ sym (laid-left q n ms s nay) ∙ is)

          rest_then : (g : ℕ) → g ≢ V → ((lays q p s ≡ true) × (hart_of e ≡ g)) ⊎ ((lays q p s ≡ false) × (m s ≡ Some g))
              → pending g R ≡ beyond q s (pending g es)
          rest_then g far (inl yea) =
              let none : pending g es ≡ [] = ap (λ h. pending h es) (sym yea.1) ∙ here.0 in
              t.others g far (λ is. none-some (m s) g (free yea.0) is) ∙ none ∙ ap (beyond q s) (sym none)
          rest_then g far (inr nay) = t.rest g far nay.1

          others_then : (g : ℕ) → g ≢ V → (laid q n ms s ≡ Some g → ⊥) → (m s ≡ Some g) ⊎ (m s ≡ Some g → ⊥) → pending g R ≡ pending g es
          others_then g far not (inr never) = t.others g far never
          others_then g far not (inl held) = elim (cases_eq (hart_of e) g) [
            | inl mine_too ↦
                let none : pending g es ≡ [] = ap (λ h. pending h es) (sym mine_too) ∙ here.0 in
                t.rest g far held ∙ ap (beyond q s) none ∙ sym none
            | inr other ↦
                let l = theirs_swapped B q o es e c m w allowed a old new_word does le may g s other held in
                absurd (not (left_by B q o es e c m w allowed a old new_word does le may s m l.0 l.1 ∙ held))
          ]

-- ---- every run in which one hart plays a token's role, by induction

pub played-snoc : (q : TokenLayout) (s V : ℕ) (before : List Entry) (c m : Holders) (es : List Entry) (d : Entry)
    → played q s V before c m (es ++ d ∷ [])
    ≡ played q s V before c m es ++ as_role V (is_holder (holders q c es s) (hart_of d)) (is_holder (memory q before m es s) (hart_of d)) d ∷ []
played-snoc q s V before c m [] d = refl
played-snoc q s V before c m (e ∷ es) d = ap (λ xs. as_role V (is_holder (c s) (hart_of e)) (is_holder (m s) (hart_of e)) e ∷ xs)
    (played-snoc q s V (before ++ e ∷ []) (holders_next q c e) (in_memory q before e m) es d)

module _ (q : TokenLayout) (s V B : ℕ) (o : OpeningValue) where
  module _ (es R : List Entry) (m : Holders) (t : Turn q s V B o es R m) (c : Holders) (w : Held q o es c m)
      (le : (g : ℕ) → lands g es ≤ length (own_stores g es)) where
    abbrev Then : Entry → Entry → Holders → Type 0
    Then e d n = Turn q s V B o (es ++ e ∷ []) (R ++ d ∷ []) n

    role_still : (e : Entry) → Allowed B o es e → hart_of e ≢ V → (d : Entry) → Allowed B o R d → IsStill (access_of e) → IsStill (access_of d) → Then e d m
    role_still e allowed new d = quiet q s V B o es R m t c w e le allowed new d

    role_loads : (h a width v : ℕ) → Allowed B o es (entry.Load h a width v) → h ≢ V → (b : Bool) → is_holder (c s) h ≡ b → (l : Bool) → is_holder (m s) h ≡ l
        → Then (entry.Load h a width v) (if b then entry.Load V a width v else (if l then entry.Inner h else entry.Load h a width v)) m
    role_loads h a width v allowed new true yea l is = role_still (entry.Load h a width v) allowed new (entry.Load V a width v)
        (allowed ∙ sym (same_read q s V B o es R m t V h a width (all_of_role q s V B o es R m t c w h (holder-true (c s) h yea))))
        (load_still a width v) (load_still a width v)
    role_loads h a width v allowed new false nay false not = role_still (entry.Load h a width v) allowed new (entry.Load h a width v)
        (allowed ∙ sym (same_read q s V B o es R m t h h a width (t.others h new (holder-false (m s) h not)))) (load_still a width v) (load_still a width v)
    role_loads h a width v allowed new false nay true laid_down =
        role_still (entry.Load h a width v) allowed new (entry.Inner h) tt (load_still a width v) nothing_still

    role_stores : (h a width v : ℕ) → Allowed B o es (entry.Store h a width v) → h ≢ V → (b : Bool) → is_holder (c s) h ≡ b
        → Then (entry.Store h a width v) (entry.Store (if b then V else h) a width v) m
    role_stores h a width v allowed new true yea = by_role q s V B o es R m t c w (entry.Store h a width v) le allowed new (write a width v) refl
        (entry.Store V a width v) refl refl (holder-true (c s) h yea)
    role_stores h a width v allowed new false nay = by_other q s V B o es R m t c w (entry.Store h a width v) le allowed new (write a width v) refl
        (entry.Store h a width v) refl refl (holder-false (c s) h nay)

    swaps : (h a old n : ℕ) → Allowed B o es (entry.Amo h a old n) → h ≢ V → May q h c (access_of (entry.Amo h a old n)) → (b : Bool) → is_holder (c s) h ≡ b
        → Then (entry.Amo h a old n) (entry.Amo (if b then V else h) a old n) (laid q (write a 4 n) (taken_by q h (write a 4 old) m))
    swaps h a old n allowed new may true yea = swapped q s V B o es R m t c w (entry.Amo h a old n) le allowed new a old n refl may
        (entry.Amo V a old n) V refl refl (all_of_role q s V B o es R m t c w h (holder-true (c s) h yea) ∙ allowed.0)
    swaps h a old n allowed new may false nay = swapped q s V B o es R m t c w (entry.Amo h a old n) le allowed new a old n refl may
        (entry.Amo h a old n) h refl refl (t.others h new (λ held. holder-false (c s) h nay
        (w.from h s (ap (λ ws. all_laid q ws m s) allowed.0 ∙ held))) ∙ allowed.0)

    role_landing : (h : ℕ) → Allowed B o es (entry.Land h) → h ≢ V → (b : Bool) → is_holder (m s) h ≡ b → (ws : List Write) → pending h es ≡ ws
        → Then (entry.Land h) (entry.Land (if b then V else h)) (laid_first q ws m)
    role_landing h allowed new b is [] none = absurd (let zero : length (pending h es) ≡ 0 = ap length none in omega (arith, zero, allowed))
    role_landing h allowed new false nay (v ∷ later) oldest = lands_free q s V B o es R m t c w (entry.Land h) le allowed new refl v later oldest
        (holder-false (m s) h nay) (entry.Land h) refl refl
    role_landing h allowed new true yea (v ∷ later) oldest = by (lays q v s) refl
      where
        by : (d : Bool) → lays q v s ≡ d → Then (entry.Land h) (entry.Land V) (laid q v m)
        by true down = lays_down q s V B o es R m t c w (entry.Land h) le allowed new refl v later oldest
            (holder-true (m s) h yea) (entry.Land V) refl refl down
        by false none = lays_none q s V B o es R m t c w (entry.Land h) le allowed new refl v later oldest
            (holder-true (m s) h yea) (entry.Land V) refl refl none

    pub role_one : (e : Entry) → Allowed B o es e → hart_of e ≢ V → May q (hart_of e) c (access_of e)
        → Then e (as_role V (is_holder (c s) (hart_of e)) (is_holder (m s) (hart_of e)) e) (in_memory q es e m)
    role_one (entry.Load h a width v) allowed new may = role_loads h a width v allowed new (is_holder (c s) h) refl (is_holder (m s) h) refl
    role_one (entry.Store h a width v) allowed new may = role_stores h a width v allowed new (is_holder (c s) h) refl
    role_one (entry.Amo h a old n) allowed new may = swaps h a old n allowed new may (is_holder (c s) h) refl
    role_one (entry.Land h) allowed new may = role_landing h allowed new (is_holder (m s) h) refl (pending h es) refl
    role_one (entry.Fence h full) allowed new may = role_still (entry.Fence h full) allowed new (entry.Inner h) tt (fence_still full) nothing_still
    role_one e allowed new may = role_still e allowed new e tt nothing_still nothing_still

  pub nothing_yet : (start : Holders) → Turn q s V B o [] [] start
  nothing_yet start = record {
    legal = tt;
    landings = refl;
    role = λ g is. refl;
    nobody = λ is. refl;
    rest = λ g far is. refl;
    others = λ g far is. refl;
  }

  module _ (start : Holders) where
    abbrev pub TurnOf : List Entry → Type 0
    TurnOf es = Turn q s V B o es (as_one_hart q s V start es) (memory q [] start es)

    pub turn_next : (es : List Entry) (e : Entry) → FollowsTokens B q start o (es ++ e ∷ []) → hart_of e ≢ V → TurnOf es → TurnOf (es ++ e ∷ [])
    turn_next es e f new t = subst (Turn q s V B o (es ++ e ∷ []) (as_one_hart q s V start (es ++ e ∷ []))) (sym (memory-snoc q [] start es e))
        (subst (λ xs. Turn q s V B o (es ++ e ∷ []) xs (in_memory q es e (memory q [] start es))) (sym (played-snoc q s V [] start start es e))
        (role_one es (as_one_hart q s V start es) (memory q [] start es) t (holders q start es) (held_at B q o start es (front B q o start es e f))
        (balanced_front B q o start es e f) e (allowed_last B q o start es e f) new (may_last B q o start es e f)))

    turn_of : (es : List Entry) → FollowsTokens B q start o es → All (λ e. hart_of e ≢ V) es → TurnOf es
    turn_of es f = of-runs B q o start (λ xs. All (λ e. hart_of e ≢ V) xs → TurnOf xs) (λ all. nothing_yet start)
        (λ xs e g t all. (let parts = All-pop (λ d. hart_of d ≢ V) (xs ++ e ∷ []) xs (Some e) refl all in turn_next xs e g parts.1 (t parts.0))) es f

    -- the run with the role is legal, leaves the same memory, and its hart reads what the token's holder reads
    pub plays : (es : List Entry) → FollowsTokens B q start o es → All (λ e. hart_of e ≢ V) es
        → Legal B (history_of o (as_one_hart q s V start es)) × ((x : ℕ) → memory_byte o (as_one_hart q s V start es) x ≡ memory_byte o es x)
        × ((h x : ℕ) → holders q start es s ≡ Some h → read_byte o (as_one_hart q s V start es) V x ≡ read_byte o es h x)
    plays es f fresh = (
      (turn_of es f fresh).legal,
      same_memory q s V B o es (as_one_hart q s V start es) (memory q [] start es) (turn_of es f fresh),
      reads_same q s V B o es (as_one_hart q s V start es) (memory q [] start es) (turn_of es f fresh) (holders q start es) (held_at B q o start es f),
    )

-- ---- the laws of ownership of a run in which the sender's role is handed on

pub follows : (B : ℕ) (q : TokenLayout) (s : ℕ) (start : Holders) (k : Queue) (n : QueueCounts) (o : OpeningValue) (es : List Entry)
    → FollowsRole B q s start k n o es → FollowsOwnership B k n o [] (as_one_hart q s k.sender start es)
follows B q s start k n o es f = record {
  queue = f.queue;
  legal = (plays q s k.sender B o start es f.tokens f.role).0;
  rest = f.rest;
  keeps = f.keeps;
}

pub ordered : (B : ℕ) (q : TokenLayout) (s : ℕ) (start : Holders) (k : Queue) (n : QueueCounts) (o : OpeningValue) (es : List Entry)
    → FollowsRole B q s start k n o es → LeavesSlotsAt k k.receiver (as_one_hart q s k.sender start es)
    → IsPrefix (records_by k the_receiver o n [] (as_one_hart q s k.sender start es))
    (records_waiting k o n [] n.taken ++ records_by k the_sender o n [] (as_one_hart q s k.sender start es))
ordered B q s start k n o es f leaves = in_order B k n o [] (as_one_hart q s k.sender start es) (follows B q s start k n o es f) leaves

-- ---- the run in which one hart plays a role keeps the token of another one, so a second hart may play that

module _ (q : TokenLayout) (r : ℕ) where
  -- of token r alone a write lays down what it does of all
  same-lies : (b : Bool) → (b && r == r) ≡ b
  same-lies b = ap (λ c. b && c) (eq-eqb r r refl) ∙ by b
    where
      by : (b : Bool) → (b && true) ≡ b
      by true = refl
      by false = refl

  same-in : (w : Write) (i : ℕ) → lays_in (only q r) w r i ≡ lays_in q w r i
  same-in w i = ap (λ b. covers_place q w i && b) (same-lies (q.lies i (number_laid q w i) r))

  same-below : (w : Write) (n : ℕ) → any_below n (lays_in (only q r) w r) ≡ any_below n (lays_in q w r)
  same-below w zero = refl
  same-below w (suc n) = ap (λ b. b || any_below n (lays_in (only q r) w r)) (same-in w n) ∙ ap (λ b. lays_in q w r n || b) (same-below w n)

  same-lays : (w : Write) → lays (only q r) w r ≡ lays q w r
  same-lays w = same-below w q.places

  lies-all : (i v t : ℕ) → (only q r).lies i v t ≡ true → (q.lies i v t ≡ true) × (t ≡ r)
  lies-all i v t is = let parts = and_parts (q.lies i v t) (t == r) is in (parts.0, eqb-true t r parts.1)

  in-all : (w : Write) (t i : ℕ) → lays_in (only q r) w t i ≡ true → (lays_in q w t i ≡ true) × (t ≡ r)
  in-all w t i is = grind (arith, and_parts, lies-all, and_from)

  -- only token r is laid down
  laid-r : (w : Write) (t : ℕ) → lays (only q r) w t ≡ true → t ≡ r
  laid-r w t is = let some = any-from q.places (lays_in (only q r) w t) is in (in-all w t some.0 some.2).1

  -- a hart k may write what hart h may, of token r, if it holds that where h does
  writes : (h k : ℕ) (c d : Holders) (w : Write) → (c r ≡ Some h → d r ≡ Some k) → MayWrite q h c w → MayWrite (only q r) k d w
  writes h k c d w on may = record {
    whole = may.whole;
    held = λ t yea. (let is : t ≡ r = laid-r w t yea in
        subst (λ u. d u ≡ Some k) (sym is) (on (may.held r (sym (same-lays w) ∙ subst (λ u. lays (only q r) w u ≡ true) is yea))));
    once = λ i j t li lj yi yj. may.once i j t li lj (in-all w t i yi).0 (in-all w t j yj).0;
    guarded = λ t x over guards. absurd (let wrong : false ≡ true = guards in cc);
  }

  laid-same : (w : Write) (c d : Holders) → d r ≡ c r → laid (only q r) w d r ≡ laid q w c r
  laid-same w c d same = ap (λ (b : Bool). if b then None else d r) (same-lays w) ∙ ap (λ (z : Option ℕ). if lays q w r then None else z) same

  module _ (s V : ℕ) where
    abbrev role : Holders → ℕ → Bool
    role c h = is_holder (c s) h

    writes_stored : (h : ℕ) (c d : Holders) (w : Write) → d r ≡ c r → MayWrite q h c w → (c s ≡ Some h → c r ≡ Some h → ⊥) → (b : Bool) → role c h ≡ b
        → MayWrite (only q r) (if b then V else h) d w
    writes_stored h c d w same may apart true yea = writes h V c d w (λ is. absurd (apart (holder-true (c s) h yea) is)) may
    writes_stored h c d w same may apart false nay = writes h h c d w (λ is. same ∙ is) may

    writes_swapped : (h : ℕ) (c d : Holders) (p n : Write) → d r ≡ c r → MayWrite q h (taken_by q h p c) n
        → (c s ≡ Some h → c r ≡ Some h → ⊥) → (b : Bool) → role c h ≡ b
        → MayWrite (only q r) (if b then V else h) (taken_by (only q r) (if b then V else h) p d) n
    writes_swapped h c d p n same may apart b is = writes h (if b then V else h) (taken_by q h p c) (taken_by (only q r) (if b then V else h) p d) n
        (λ holds. at b is (lays q p r) refl holds) may
      where
        at : (b : Bool) → role c h ≡ b → (z : Bool) → lays q p r ≡ z → taken_by q h p c r ≡ Some h
            → taken_by (only q r) (if b then V else h) p d r ≡ Some (if b then V else h)
        at b is true found holds = taken-here (only q r) (if b then V else h) p d r (same-lays p ∙ found)
        at true yea false none holds = absurd (apart (holder-true (c s) h yea) (sym (taken-left q h p c r none) ∙ holds))
        at false nay false none holds = taken-left (only q r) h p d r (same-lays p ∙ none) ∙ same ∙ sym (taken-left q h p c r none) ∙ holds

    swapped_same : (h : ℕ) (c d : Holders) (p n : Write) → d r ≡ c r → (c s ≡ Some h → laid q n (taken_by q h p c) r ≡ Some h → ⊥) → (b : Bool) → role c h ≡ b
        → laid (only q r) n (taken_by (only q r) (if b then V else h) p d) r ≡ laid q n (taken_by q h p c) r
    swapped_same h c d p n same apart b is = at b is (lays q n r) refl (lays q p r) refl
      where
        at : (b : Bool) → role c h ≡ b → (y : Bool) → lays q n r ≡ y → (z : Bool) → lays q p r ≡ z
            → laid (only q r) n (taken_by (only q r) (if b then V else h) p d) r ≡ laid q n (taken_by q h p c) r
        at b is true down z found = grind (arith, laid-gone, same-lays)
        at true yea false none true found = absurd (apart (holder-true (c s) h yea) (laid-left q n (taken_by q h p c) r none ∙ taken-here q h p c r found))
        at false nay false none true found = grind (arith, laid-left, same-lays, taken-here)
        at b is false none false nothing = grind (arith, laid-left, same-lays, taken-left)

    keeps_one : (e : Entry) (c m d : Holders) → d r ≡ c r → May q (hart_of e) c (access_of e)
        → (c s ≡ Some (hart_of e) → (c r ≡ Some (hart_of e) → ⊥) × (holders_next q c e r ≡ Some (hart_of e) → ⊥))
        → May (only q r) (hart_of (as_role V (role c (hart_of e)) (is_holder (m s) (hart_of e)) e)) d
        (access_of (as_role V (role c (hart_of e)) (is_holder (m s) (hart_of e)) e))
        × (holders_next (only q r) d (as_role V (role c (hart_of e)) (is_holder (m s) (hart_of e)) e) r ≡ holders_next q c e r)
    keeps_one (entry.Load h a width v) c m d same may apart = by (role c h) (is_holder (m s) h)
      where
        by : (b l : Bool)
            → May (only q r) (hart_of (if b then entry.Load V a width v else (if l then entry.Inner h else entry.Load h a width v))) d
            (access_of (if b then entry.Load V a width v else (if l then entry.Inner h else entry.Load h a width v)))
            × (holders_next (only q r) d (if b then entry.Load V a width v else (if l then entry.Inner h else entry.Load h a width v)) r ≡ c r)
        by true l = (tt, same)
        by false true = (tt, same)
        by false false = (tt, same)
    keeps_one (entry.Store h a width v) c m d same may apart = grind (arith, writes_stored, laid-same)
    keeps_one (entry.Amo h a old n) c m d same may apart = grind (arith, writes_swapped, swapped_same)
    keeps_one (entry.Fence h full) c m d same may apart = (tt, same)
    keeps_one (entry.Land h) c m d same may apart = (tt, same)
    keeps_one e c m d same may apart = (tt, same)

    keeps_played : (before es : List Entry) (c m d : Holders) → d r ≡ c r → KeepsTokens q c es → HoldsApart q s r c es
        → KeepsTokens (only q r) d (played q s V before c m es)
    keeps_played before [] c m d same k apart = tt
    keeps_played before (e ∷ es) c m d same k apart =
        let this = keeps_one e c m d same k.0 apart.0 in (
          this.0,
          keeps_played (before ++ e ∷ []) es (holders_next q c e) (in_memory q before e m)
              (holders_next (only q r) d (as_role V (role c (hart_of e)) (is_holder (m s) (hart_of e)) e)) this.1 k.1 apart.1,
        )

    -- the played run has no hart that neither the run has nor plays
    still_new : (U : ℕ) → V ≢ U → (before es : List Entry) (c m : Holders) → All (λ e. hart_of e ≢ U) es → All (λ e. hart_of e ≢ U) (played q s V before c m es)
    still_new U other before [] c m all = All-nil (λ e. hart_of e ≢ U)
    still_new U other before (e ∷ es) c m all = All-cons (λ x. hart_of x ≢ U) (as_role V (role c (hart_of e)) (is_holder (m s) (hart_of e)) e)
        (played q s V (before ++ e ∷ []) (holders_next q c e) (in_memory q before e m) es)
        (acts e (role c (hart_of e)) (is_holder (m s) (hart_of e)) (All-head (λ x. hart_of x ≢ U) e es all))
        (still_new U other (before ++ e ∷ []) es (holders_next q c e) (in_memory q before e m) (All-tail (λ x. hart_of x ≢ U) e es all))
      where
        acts : (e : Entry) (b l : Bool) → hart_of e ≢ U → hart_of (as_role V b l e) ≢ U
        acts (entry.Load h a width v) true l far = other
        acts (entry.Load h a width v) false true far = far
        acts (entry.Load h a width v) false false far = far
        acts (entry.Store h a width v) true l far = other
        acts (entry.Store h a width v) false l far = far
        acts (entry.Amo h a old n) true l far = other
        acts (entry.Amo h a old n) false l far = far
        acts (entry.Land h) b true far = other
        acts (entry.Land h) b false far = far
        acts (entry.Fence h full) b l far = far
        acts e b l far = far

pub both_follow : (B : ℕ) (q : TokenLayout) (s r : ℕ) (start : Holders) (k : Queue) (n : QueueCounts) (o : OpeningValue) (es : List Entry)
    → FollowsRoles B q s r start k n o es → FollowsOwnership B k n o [] (as_two_harts q s r k start es)
both_follow B q s r start k n o es f =
    let first = plays q s k.sender B o start es f.tokens f.sends in
    let tokens : FollowsTokens B (only q r) start o (as_one_hart q s k.sender start es) = record {
      opens = record {
        free = λ i t lt lies. f.tokens.opens.free i t lt (lies-all q r i _ t lies).0;
        once = λ i j t li lj yi yj. f.tokens.opens.once i j t li lj (lies-all q r i _ t yi).0 (lies-all q r j _ t yj).0;
      };
      legal = first.0;
      keeps = keeps_played q r s k.sender [] es start start start refl f.tokens.keeps f.apart;
    } in
    record {
      queue = f.queue;
      legal = (plays (only q r) r k.receiver B o start (as_one_hart q s k.sender start es) tokens
          (still_new q r s k.sender k.receiver f.queue.parties [] es start start f.receives)).0;
      rest = f.rest;
      keeps = f.keeps;
    }
