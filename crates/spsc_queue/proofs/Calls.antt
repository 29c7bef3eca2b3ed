-- Code that calls the functions follows the protocol, and each party stands where its outline says.
use Rattle.spsc_queue.proofs.Common.{ℕ, ◌<◌, ◌≡◌, ◌≢◌, ◌⊎◌, inl, inr, Bool, true, false, if◌then◌else◌, List, [], ◌∷◌, ◌++◌, length, Some, refl, sym, ◌∙◌, ap}
use Rattle.spsc_queue.proofs.Common.{subst, append-nil, append_assoc, All, slice_index, HartState, Entry, OpeningValue, history_of, Access, land, access_of}
use Rattle.spsc_queue.proofs.Common.{hart_of, is_land, is_own, number_read, state_of, WellFormed, LegalAfter, LegalAfter-front, Kind, RingBuffer, IsRingBuffer}
use Rattle.spsc_queue.proofs.Common.{ProtocolState, at_start, role_of, next_by, protocol_next, KeepsProtocolBy, KeepsProtocol, parties_after}
use Rattle.spsc_queue.proofs.Common.{FollowsSpscProtocol, Block, SpscQueue, party_hart, party_line, listing_of, buffer, enters, is_in_call_after}
use Rattle.spsc_queue.proofs.Common.{is_in_call_with, completed_at, completed_by_entry, HasArguments, CallerObligation, SharesQueue, UsesAsSpscQueue}
use Rattle.spsc_queue.proofs.Common.{completed_word}
use Rattle.hart.specs.Steps.{advanced}
use Rattle.step_machine.specs.Names.{CanMake, IsOfHarts}
use Rattle.step_machine.proofs.Placing.{land_other, own_other}
use Rattle.spsc_queue.specs.Calls.{Party, the_sender, the_receiver}
use Rattle.spsc_queue.proofs.Growing.{protocol-append}
use Rattle.spsc_queue.proofs.Runs.{known-of}
use Rattle.spsc_queue.proofs.Courses.{moved, Course, went}
use Rattle.spsc_queue.proofs.Outline.{Part, part, role, Level, Near, Inside, CourseStands, Stands, any_course, Does, Moves}
use Rattle.spsc_queue.proofs.Parts.{ring_is, keeps-more, stays-keeps, does-keeps, land-leaves, other-leaves, level-next, near-of}
use Rattle.spsc_queue.proofs.Functions.{moves_at, fresh_course, begins}
use Rattle.spsc_queue.proofs.OwnEntries.{made_by, known_hart, same_state, next_state, land_is, own_is, state_here, is_here, equipped}
use Rattle.spsc_queue.proofs.Completed.{is_in_call-last, none_completed, same_call, own_completed, own_call}
use Rattle.spsc_queue.proofs.Parties.{is_busy, first_words, words, words-last, has_of, owed_of, which, other_hart, Mine, Others, whose, not_mine}

-- ---- one entry of a run, and all of them

module _ (B M : ℕ) (o : OpeningValue) (q : SpscQueue) (before es : List Entry) (c : SharesQueue B M o q before es) where
  abbrev k : Block
  k = q.block

  abbrev K : Kind
  K = q.block.kind

  abbrev r : RingBuffer
  r = buffer q

  ring : IsRingBuffer r
  ring = ring_is M k q.sender q.receiver c.block c.parties

  -- a party's state where it is known
  abbrev pub here : Party → List Entry → HartState
  here p done = state_here M o (party_hart q p) (party_line q p) (listing_of K k.caches p) (has_of c p) (before ++ done)

  pub was_here : (p : Party) (done : List Entry) → state_of M (history_of o (before ++ done)) (party_hart q p) ≡ Some (here p done)
  was_here p done = is_here M o (party_hart q p) (party_line q p) (listing_of K k.caches p) (has_of c p) (before ++ done)

  -- the protocol is kept so far, and each party stands in its code or in its function
  pub record Stand (done : List Entry) : Type 0 where
    pub keeps : KeepsProtocol r (at_start r o before) done
    pub stands : (p : Party) (s : HartState) → state_of M (history_of o (before ++ done)) (party_hart q p) ≡ Some s
        → Stands (party_line q p) p K k r (is_busy M o q p before done) (words M o q p before done) s (part p (parties_after r o before done))

  module _ (done : List Entry) (e : Entry) (more : List Entry) (is : es ≡ done ++ e ∷ more) (st : Stand done) where
    abbrev T : ProtocolState
    T = parties_after r o before done

    abbrev U : ProtocolState
    U = protocol_next r T e

    run : WellFormed B M (history_of o (before ++ (done ++ e ∷ more)))
    run = subst (λ xs. WellFormed B M (history_of o (before ++ xs))) is c.run

    follows : FollowsSpscProtocol B r o before done
    follows = record {
      ring = ring;
      legal = LegalAfter-front B o [] (before ++ done) (e ∷ more) (subst (LegalAfter B o []) (sym (append_assoc before done (e ∷ more))) run.legal);
      rest = c.rest;
      keeps = st.keeps;
    }

    known : hart_of e < length o.harts
    known = known_hart o (before ++ done) e more (subst (All (IsOfHarts o)) (sym (append_assoc before done (e ∷ more))) run.of_harts)

    near : (p : Party) → Near k (part p T)
    near p = near-of k q.sender q.receiver ring p K (slice_index (parties_after r o before (done ++ [])).sent) T
        (known-of B r o before done [] (subst (FollowsSpscProtocol B r o before) (sym (append-nil done)) follows))

    -- whether a party is in a call, and what its calls completed, so far and with this entry
    abbrev C : Party → Bool
    C p = is_busy M o q p before done

    abbrev A : Party → List ℕ
    A p = words M o q p before done

    abbrev C_next : Party → Bool
    C_next p = is_in_call_with M o (party_hart q p) (party_line q p) k (C p) (before ++ done) e

    abbrev A_next : Party → List ℕ
    A_next p = A p ++ completed_by_entry M o (party_hart q p) (party_line q p) (C p) (before ++ done) e

    abbrev StandsNext : Party → HartState → Part → Type 0
    StandsNext p s t = Stands (party_line q p) p K k r (C_next p) (A_next p) s t

    does_by : (h : ℕ) → hart_of e ≡ h → is_land e ≡ false → (s : HartState) → state_of M (history_of o (before ++ done)) h ≡ Some s
        → access_of e ≡ moved (hart_of e) s (number_read e)
    does_by h mine act s was =
        let can : CanMake s e = made_by B M o before done e more run act s known (ap (state_of M (history_of o (before ++ done))) mine ∙ was) in
        ap access_of can.made

    -- an entry of a call
    module _ (p : Party) (mine : hart_of e ≡ party_hart q p) (act : is_land e ≡ false) (busy : C p ≡ true) (s : HartState)
        (was : state_of M (history_of o (before ++ done)) (party_hart q p) ≡ Some s) (d : Course)
        (inside : Inside (party_line q p) p K k r (A p) d s (part p T)) where
      abbrev n : ℕ
      n = party_line q p

      abbrev z : HartState
      z = advanced s (number_read e)

      moves : Moves n p K k r (is_in_call_after n k true s z) (A p ++ completed_at n true s) d (hart_of e) s T (number_read e)
          × (completed_at n true s ≡ (if is_in_call_after n k true s z then [] else completed_word z))
      moves = moves_at M n q.sender q.receiver p K k c.block (hart_of e) s T (number_read e) refl
          (equipped M o (party_hart q p) n (listing_of K k.caches p) (has_of c p) (before ++ done) s was) (near p) d (A p) inside.line inside.place inside.row

      own_e : is_own (party_hart q p) e ≡ true
      own_e = own_is (party_hart q p) e mine act

      same : is_in_call_after n k true s z ≡ C_next p
      same = ap (λ b. is_in_call_after n k b s z) (sym busy) ∙ own_call M o (party_hart q p) n k (C p) (before ++ done) e s own_e was

      completed : completed_at n true s ≡ completed_by_entry M o (party_hart q p) n (C p) (before ++ done) e
      completed = ap (λ b. completed_at n b s) (sym busy) ∙ own_completed M o (party_hart q p) n (C p) (before ++ done) e s own_e was

      -- if the call ends by this entry, it completes the word that its answer says
      pub completes : completed_by_entry M o (party_hart q p) n (C p) (before ++ done) e ≡ (if C_next p then [] else completed_word z)
      completes = sym completed ∙ moves.1 ∙ ap (λ b. if b then [] else completed_word z) same

      rule : KeepsProtocolBy K r (role p) T (access_of e)
      rule = does-keeps K r p T (access_of e) (subst (Does p K r T) (sym (does_by (party_hart q p) mine act s was)) moves.0.rule)

      pub course_stands : CourseStands n p K k r (C_next p) (A_next p) (went d (access_of e)) z (part p (next_by K r (role p) T (access_of e)))
      course_stands =
          let X : Access = moved (hart_of e) s (number_read e) in
          subst (λ y. CourseStands n p K k r (C_next p) (A_next p) (went d y) z (part p (next_by K r (role p) T y)))
          (sym (does_by (party_hart q p) mine act s was))
          (subst (λ b. CourseStands n p K k r b (A_next p) (went d X) z (part p (next_by K r (role p) T X))) same
          (subst (λ ws. CourseStands n p K k r (is_in_call_after n k true s z) ws (went d X) z (part p (next_by K r (role p) T X)))
          (ap (λ ws. A p ++ ws) completed) moves.0.after))

    -- in a call a party does what its line does
    pub party_does : (p : Party) → hart_of e ≡ party_hart q p → is_land e ≡ false → C p ≡ true → Does p K r T (access_of e) × Near k (part p T)
    party_does p mine act busy =
        let s : HartState = here p done in
        let inside : Stands (party_line q p) p K k r true (A p) s (part p T) =
        subst (λ b. Stands (party_line q p) p K k r b (A p) s (part p T)) busy (st.stands p s (was_here p done)) in (
          subst (Does p K r T) (sym (does_by (party_hart q p) mine act s (was_here p done)))
              (moves p mine act busy s (was_here p done) inside.0 inside.1).0.rule,
          near p,
        )

    module _ (w : CallerObligation M o q before done e) where
      -- what is to be shown of the entry
      record Goes : Type 0 where
        rule : KeepsProtocolBy K r (role_of r (hart_of e)) T (access_of e)
        stands : (p : Party) (s : HartState) → state_of M (history_of o ((before ++ done) ++ e ∷ [])) (party_hart q p) ≡ Some s → StandsNext p s (part p U)

      -- a party that doesn't act by this entry
      rests : (p : Party) → is_own (party_hart q p) e ≡ false → part p U ≡ part p T → (s : HartState)
          → state_of M (history_of o ((before ++ done) ++ e ∷ [])) (party_hart q p) ≡ Some s → StandsNext p s (part p U)
      rests p off same s at =
          subst (λ b. Stands (party_line q p) p K k r b (A_next p) s (part p U))
          (same_call M o (party_hart q p) (party_line q p) k (C p) (before ++ done) e off) (subst (λ ws. Stands (party_line q p) p K k r (C p) ws s (part p U))
          (none_completed M o (party_hart q p) (party_line q p) (C p) (before ++ done) e (A p) off)
          (subst (Stands (party_line q p) p K k r (C p) (A p) s) (sym same) (st.stands p s (same_state M o (before ++ done) e (party_hart q p) off s at))))

      lands : is_land e ≡ true → Goes
      lands land_e =
          let does : access_of e ≡ land = land_is (access_of e) land_e in
          let unchanged : U ≡ T = ap (next_by K r (role_of r (hart_of e)) T) does ∙ land-leaves K r (role_of r (hart_of e)) T in
          record {
            rule = subst (KeepsProtocolBy K r (role_of r (hart_of e)) T) (sym does) (stays-keeps K r (role_of r (hart_of e)) T land tt);
            stands = λ p. rests p (land_other (party_hart q p) e land_e) (ap (part p) unchanged);
          }

      others : Others q (hart_of e) → Goes
      others is =
          let unchanged : U ≡ T = ap (λ b. next_by K r b T (access_of e)) is.role in
          record {
            rule = stays-keeps K r (role_of r (hart_of e)) T (access_of e) (w.others is.not_sender is.not_receiver);
            stands = λ p. rests p (own_other (party_hart q p) e (not_mine q is p)) (ap (part p) unchanged);
          }

      module _ (own : Mine q (hart_of e)) (act : is_land e ≡ false) where
        abbrev p : Party
        p = own.party

        abbrev s : HartState
        s = here own.party done

        abbrev V : ProtocolState
        V = next_by K r (role own.party) T (access_of e)

        goes_by : KeepsProtocolBy K r (role p) T (access_of e) → StandsNext p (advanced s (number_read e)) (part p V) → Goes
        goes_by rule stands = record {
          rule = subst (λ b. KeepsProtocolBy K r b T (access_of e)) (sym own.role) rule;
          stands = λ p2. at p2 (which p p2);
        }
          where
            next_is : U ≡ V
            next_is = ap (λ b. next_by K r b T (access_of e)) own.role

            at : (p2 : Party) → (p ≡ p2) ⊎ (p ≢ p2) → (y : HartState)
                → state_of M (history_of o ((before ++ done) ++ e ∷ [])) (party_hart q p2) ≡ Some y → StandsNext p2 y (part p2 U)
            at p2 (inl same) = subst (λ g. (y : HartState) → state_of M (history_of o ((before ++ done) ++ e ∷ [])) (party_hart q g) ≡ Some y
                → StandsNext g y (part g U)) same
                (λ y there. subst (λ g. StandsNext p g (part p U)) (next_state M o (before ++ done) e (party_hart q p) own.hart act s y (was_here p done) there)
                (subst (λ g. StandsNext p (advanced s (number_read e)) (part p g)) (sym next_is) stands))
            at p2 (inr other) = rests p2 (own_other (party_hart q p2) e (λ same. other_hart q c.parties p p2 other (sym own.hart ∙ same)))
                (ap (part p2) next_is ∙ other-leaves K r p2 p other T (access_of e))

        -- outside of a call, it may enter the function
        enters_by : (b : Bool) → enters (party_line q p) k (advanced s (number_read e)) ≡ b
            → (b ≡ true → HasArguments p (party_line q p) k (advanced s (number_read e))) → Level (part p V) × ((part p V).words ≡ A p)
            → Stands (party_line q p) p K k r b (A p) (advanced s (number_read e)) (part p V)
        enters_by false off call level = level
        enters_by true on call level = (
          fresh_course (advanced s (number_read e)),
          begins (party_line q p) p K k r (A p) (advanced s (number_read e)) (part p V) on (call refl) level.0 level.1,
        )

        acts : (b : Bool) → C p ≡ b → Stands (party_line q p) p K k r b (A p) s (part p T) → Goes
        acts false idle stands =
            let n : ℕ = party_line q p in
            let owed = owed_of w p own.hart act s (was_here p done) idle in
            let own_e : is_own (party_hart q p) e ≡ true = own_is (party_hart q p) e own.hart act in
            let same : enters n k (advanced s (number_read e)) ≡ C_next p =
            ap (λ b. is_in_call_after n k b s (advanced s (number_read e))) (sym idle)
            ∙ own_call M o (party_hart q p) n k (C p) (before ++ done) e s own_e (was_here p done) in
            let all : A p ≡ A_next p = sym (append-nil (A p)) ∙ ap (λ b. A p ++ completed_at n b s) (sym idle)
            ∙ ap (λ ws. A p ++ ws) (own_completed M o (party_hart q p) n (C p) (before ++ done) e s own_e (was_here p done)) in
            let level = level-next K r p T (access_of e) owed.0 stands.0 in
            goes_by (stays-keeps K r (role p) T (access_of e) owed.0) (subst (λ b. Stands n p K k r b (A_next p) (advanced s (number_read e)) (part p V)) same
            (subst (λ ws. Stands n p K k r (enters n k (advanced s (number_read e))) ws (advanced s (number_read e)) (part p V)) all
            (enters_by (enters n k (advanced s (number_read e))) refl owed.1 (level.0, level.1 ∙ stands.1))))
        acts true busy inside = goes_by (rule p own.hart act busy s (was_here p done) inside.0 inside.1)
            (any_course (party_line q p) p K k r (C_next p) (A_next p) (went inside.0 (access_of e)) (advanced s (number_read e)) (part p V)
            (course_stands p own.hart act busy s (was_here p done) inside.0 inside.1))

      goes : Goes
      goes = at (is_land e) refl (whose q (hart_of e))
        where
          at : (l : Bool) → is_land e ≡ l → Mine q (hart_of e) ⊎ Others q (hart_of e) → Goes
          at true land_e is = lands land_e
          at false act (inl is) = acts is act (C is.party) refl (st.stands is.party (here is.party done) (was_here is.party done))
          at false act (inr is) = others is

      pub stands_on : Stand (done ++ e ∷ [])
      stands_on = record {
        keeps = keeps-more r (at_start r o before) done e st.keeps goes.rule;
        stands = λ p y at.
            subst (λ b. Stands (party_line q p) p K k r b (words M o q p before (done ++ e ∷ [])) y (part p (parties_after r o before (done ++ e ∷ []))))
            (sym (is_in_call-last M o (party_hart q p) (party_line q p) k false before done e))
            (subst (λ ws. Stands (party_line q p) p K k r (C_next p) ws y (part p (parties_after r o before (done ++ e ∷ []))))
            (sym (words-last M o q p before done e))
            (subst (λ g. StandsNext p y (part p g)) (sym (protocol-append r (at_start r o before) done (e ∷ [])))
            (goes.stands p y (ap (λ xs. state_of M (history_of o xs) (party_hart q p)) (append_assoc before done (e ∷ [])) ∙ at))));
      }

  pub stands_at_start : Stand []
  stands_at_start = record { keeps = tt; stands = λ p s at. at_first p }
    where
      at_first : (p : Party) → Level (part p (at_start r o before)) × ((part p (at_start r o before)).words ≡ words M o q p before [])
      at_first the_sender = (record { sending = tt; receiving = tt }, sym (append-nil (first_words o q the_sender before)))
      at_first the_receiver = (record { sending = tt; receiving = tt }, refl)

-- ---- one queue

module _ (B M : ℕ) (o : OpeningValue) (q : SpscQueue) (before es : List Entry) (c : UsesAsSpscQueue B M o q before es) where
  stands-from : (done part rest : List Entry) → es ≡ done ++ (part ++ rest) → Stand B M o q before es c.shares done
      → Stand B M o q before es c.shares (done ++ part)
  stands-from done [] rest is st = subst (Stand B M o q before es c.shares) (sym (append-nil done)) st
  stands-from done (e ∷ part) rest is st = subst (Stand B M o q before es c.shares) (append_assoc done (e ∷ []) part)
      (stands-from (done ++ e ∷ []) part rest (is ∙ sym (append_assoc done (e ∷ []) (part ++ rest)))
      (stands_on B M o q before es c.shares done e (part ++ rest) is st (c.owed done e (part ++ rest) is)))

  -- at each point of the run the protocol was kept, and each party stands where its outline says
  pub stands-at : (done rest : List Entry) → es ≡ done ++ rest → Stand B M o q before es c.shares done
  stands-at done rest is = stands-from [] done rest is (stands_at_start B M o q before es c.shares)

  pub calls_follow : FollowsSpscProtocol B (buffer q) o before es
  calls_follow = record {
    ring = ring_is M q.block q.sender q.receiver c.shares.block c.shares.parties;
    legal = c.shares.run.legal;
    rest = c.shares.rest;
    keeps = (stands-at es [] (sym (append-nil es))).keeps;
  }
