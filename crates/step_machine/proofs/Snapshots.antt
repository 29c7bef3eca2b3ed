-- A machine that is put back to a snapshot of its own holds what it held then.
use Rattle.std.proofs.Common.{◌≡◌, ℕ, zero, suc, ◌≤◌, ◌<◌, List, [], ◌∷◌, ◌++◌, ◌+◌, length, get_or, take, drop, Option, Some, None, refl, sym, ◌∙◌, ap, subst}
use Rattle.std.proofs.Common.{arith, length-append, length-drop}
use Rattle.std.specs.Prelude.{map, option_map, All}
use Rattle.std.specs.List.{slice_get}
use Rattle.std.proofs.Math.Seq.{take-append_seam}
use Rattle.std.proofs.lemmas.Option.{slice_get_read}
use Rattle.std.proofs.lemmas.List.{take-append-drop}
use Rattle.hart.specs.{HartState, HartView, SavedView, IsSavedOf, put_back}
use Rattle.hart.specs.declared.need.Report.{Report}
use Rattle.hart.proofs.Advances.{HasGoneOn, state_again, reports_again}
use Rattle.memory.specs.declared.writes.Write.{Write}
use Rattle.memory.specs.Words.{written_since}
use Rattle.memory.proofs.Written.{written_back, written_few}
use Rattle.step_machine.specs.Names.{Entry, HartOpeningValue, OpeningValue, History, up_to, own, reported, state_of, SnapshotView, AreSaved, IsSavedFrom}
use Rattle.step_machine.specs.Names.{IsTakenAt, Stored, InMemory, FitStored, Config, Fit, SameButRoom, without_room, beginning, view_state, restored_harts}
use Rattle.step_machine.specs.Names.{restored_stored, restored_config, AreWithin, IsMachineAt}
use Rattle.step_machine.proofs.Appended.{reported-append}
use Rattle.step_machine.proofs.Changed.{length-changed, kept_at, all_kept}
use Rattle.step_machine.proofs.Follows.{state_after}
use Rattle.step_machine.proofs.Standings.{hart_at, sound_same}
use Rattle.step_machine.proofs.States.{state_keeps}

pub saved_at : (ws : List HartView) (ss : List SavedView) (h : ℕ) (x : SavedView) → AreSaved ws ss → slice_get ss h ≡ Some x
    → (w : HartView) × (slice_get ws h ≡ Some w) × IsSavedOf w x
saved_at [] [] h x are is = cc
saved_at (w ∷ ws) (y ∷ ss) zero x are is = let x_is : y ≡ x = cc in (w, refl, subst (IsSavedOf w) x_is are.0)
saved_at (w ∷ ws) (y ∷ ss) (suc h) x are is = saved_at ws ss h x are.1 is
saved_at z other h x are is = absurd are

length-saved : (ws : List HartView) (ss : List SavedView) → AreSaved ws ss → length ss ≡ length ws
length-saved [] [] are = refl
length-saved (w ∷ ws) (y ∷ ss) are = ap suc (length-saved ws ss are.1)
length-saved x z are = absurd are

pub saved_next : (hs : List HartView) (ss : List SavedView) (i : ℕ) (v : HartView) (x : SavedView) → AreSaved (take i hs) ss → slice_get hs i ≡ Some v
    → IsSavedOf v x → AreSaved (take (suc i) hs) (ss ++ x ∷ [])
saved_next [] ss i v x are is saved = cc
saved_next (w ∷ hs) [] zero v x are is saved = let w_is : w ≡ v = cc in (subst (λ (y : HartView). IsSavedOf y x) (sym w_is) saved, tt)
saved_next (w ∷ hs) (y ∷ ss) (suc i) v x are is saved = (are.0, saved_next hs ss i v x are.1 is saved)
saved_next (w ∷ hs) z other v x are is saved = absurd are

pub saved_more : (hs : List HartView) (ss rs : List SavedView) (i : ℕ) (v : HartView) (x : SavedView) → AreSaved (take i hs) ss → i < length hs
    → v ≡ get_or hs i v → IsSavedOf v x → rs ≡ ss ++ x ∷ [] → AreSaved (take (i + 1) hs) rs
saved_more hs ss rs i v x are within v_is saved more = grind (arith, saved_next, slice_get_read)

-- ---- a hart has gone on since

same_first : (so to : Option HartView) (v w : HartView) → option_map beginning so ≡ option_map beginning to → so ≡ Some v → to ≡ Some w → v.first ≡ w.first
same_first so to v w same is_v is_w = grind arith

same_code : (M k : ℕ) (t : History) (h : ℕ) (so : Option HartOpeningValue) (r s : HartState) → slice_get t.opening.harts h ≡ so → state_of M t h ≡ Some r
    → state_of M (up_to k t) h ≡ Some s → r.code ≡ s.code
same_code M k t h None r s here is_r is_s = let none : None ≡ Some r = sym (ap (option_map (state_after M (own h t.entries))) here) ∙ is_r in cc
same_code M k t h (Some o) r s here is_r is_s = (state_keeps M t h o r here is_r).code ∙ sym (state_keeps M (up_to k t) h o s here is_s).code

first_reports : (k : ℕ) (es : List Entry) (h : ℕ) (rs qs : List Report) → rs ≡ reported h es → qs ≡ reported h (take k es) → take (length qs) rs ≡ qs
first_reports k es h rs qs all some =
    let whole : rs ≡ qs ++ reported h (drop k es) =
    all ∙ ap (reported h) (sym (take-append-drop k es)) ∙ reported-append h (take k es) (drop k es) ∙ ap (λ ps. ps ++ reported h (drop k es)) (sym some) in
    ap (take (length qs)) whole ∙ take-append_seam qs (reported h (drop k es))

gone_on : (B M n k : ℕ) (t : History) (c d : Config) → IsMachineAt B M t c n → IsMachineAt B M (up_to k t) d 0
    → (h : ℕ) (v w : HartView) → slice_get c.harts h ≡ Some v
    → slice_get d.harts h ≡ Some w → HasGoneOn w v
gone_on B M n k t c d now then h v w is_v is_w = record {
  first = same_first (slice_get c.harts h) (slice_get d.harts h) v w (now.tied.firsts h ∙ sym (then.tied.firsts h)) is_v is_w;
  code = same_code M k t h (slice_get t.opening.harts h) v.state w.state refl
      (sym (now.tied.states h) ∙ ap (option_map view_state) is_v)
      (sym (then.tied.states h) ∙ ap (option_map view_state) is_w);
  words = hart_at (λ x. x.state.words ≡ M) c.harts now.fit.harts h v is_v ∙ sym (hart_at (λ x. x.state.words ≡ M) d.harts then.fit.harts h w is_w);
  reports = first_reports k t.entries h v.reports w.reports (now.tied.reports h v is_v) (then.tied.reports h w is_w);
}

-- ---- harts put back

same_restored : {X : Type 0} (f : HartView → X) (hs ws : List HartView) (ss : List SavedView) → AreSaved ws ss → length hs ≡ length ws
    → ((h : ℕ) (v w : HartView) (x : SavedView) → slice_get hs h ≡ Some v → slice_get ws h ≡ Some w → IsSavedOf w x → f (put_back v x) ≡ f w)
    → map f (restored_harts hs ss) ≡ map f ws
same_restored f [] [] ss are count same = refl
same_restored f (v ∷ hs) (w ∷ ws) [] are count same = absurd are
same_restored f (v ∷ hs) (w ∷ ws) (x ∷ ss) are count same =
    ap (λ y. y ∷ map f (restored_harts hs ss)) (same zero v w x refl refl are.0)
    ∙ ap (λ ys. f w ∷ ys) (same_restored f hs ws ss are.1 (omega arith) (λ h r s y. same (suc h) r s y))
same_restored f x y ss are count same = cc

same_seen : (v w : HartView) (x : SavedView) → IsSavedOf w x → HasGoneOn w v → without_room (put_back v x) ≡ without_room w
same_seen v w x saved on = grind (arith, state_again, reports_again)

same_stored : (s : SnapshotView) (a b : Stored) → a.first ≡ b.first → s.buffers ≡ b.buffers → s.words ++ drop (length s.words) b.first ≡ b.words
    → restored_stored s.buffers s.words a ≡ b
same_stored s a b first buffers words = grind arith

-- before the opening's words that they leave, the saved words are all words
words_back : (M : ℕ) (s : Stored) (ws : List ℕ) → FitStored M s → ws ≡ written_since s.first s.words → ws ++ drop (length ws) s.first ≡ s.words
words_back M s ws fit is = subst (λ (xs : List ℕ). xs ++ drop (length xs) s.first ≡ s.words) (sym is) (written_back s.first s.words (fit.first ∙ sym fit.words))

same_again : (B M n k : ℕ) (t : History) (c d : Config) (s : SnapshotView) → IsMachineAt B M t c n → IsMachineAt B M (up_to k t) d 0 → IsSavedFrom d s
    → SameButRoom d (restored_config s c)
same_again B M n k t c d s now then saved =
    let count : length c.harts ≡ length d.harts = now.count ∙ sym then.count in record {
      harts = same_restored without_room c.harts d.harts s.harts saved.harts count
          (λ h v w x is_v is_w of_w. same_seen v w x of_w (gone_on B M n k t c d now then h v w is_v is_w));
      firsts = same_restored beginning c.harts d.harts s.harts saved.harts count
          (λ h v w x is_v is_w of_w. (gone_on B M n k t c d now then h v w is_v is_w).first);
      stored = same_stored s c.stored d.stored (now.tied.holds.opens ∙ sym then.tied.holds.opens) saved.buffers
          (words_back M d.stored s.words then.fit.stored saved.words);
    }

-- ---- the machine put back

pub sound_back : (B M n : ℕ) (t : History) (c : Config) (s : SnapshotView) → IsMachineAt B M t c n → IsTakenAt B M (up_to s.count t) s
    → IsMachineAt B M (up_to s.count t) (restored_config s c) n
sound_back B M n t c s now taken =
    sound_same B M 0 n (up_to s.count t) taken.held (restored_config s c) taken.stands (same_again B M n s.count t c taken.held s now taken.stands taken.saved)
    (kept_at put_back (λ v. n ≤ v.room) (λ v x room. room) c.harts s.harts now.room)

pub sound_put_to : (B M n : ℕ) (o : OpeningValue) (es fs : List Entry) (c d : Config) (s : SnapshotView)
    → IsMachineAt B M (record { opening = o; entries = es }) c n
    → IsTakenAt B M (up_to s.count (record { opening = o; entries = es })) s → fs ≡ take s.count es → d ≡ restored_config s c
    → IsMachineAt B M (record { opening = o; entries = fs }) d n
sound_put_to B M n o es fs c d s now taken cut is = grind (arith, sound_back B M n (record { opening = o; entries = es }) c s now taken)

reports_within : (v w : HartView) (x : SavedView) → IsSavedOf w x → HasGoneOn w v → x.reports ≤ length v.reports
reports_within v w x saved on =
    let taken : length (take (length w.reports) v.reports) ≡ length w.reports = ap length on.reports in
    let few : length (take (length w.reports) v.reports) ≤ length v.reports = few_taken (length w.reports) v.reports in
    let is : x.reports ≡ length w.reports = saved.reports in
    omega arith
  where
    few_taken : (m : ℕ) (rs : List Report) → length (take m rs) ≤ length rs
    few_taken zero rs = omega arith
    few_taken (suc m) [] = omega arith
    few_taken (suc m) (r ∷ rs) = let less : length (take m rs) ≤ length rs = few_taken m rs in omega arith

pub within_back : (B M n : ℕ) (t : History) (c : Config) (s : SnapshotView) → IsMachineAt B M t c n → IsTakenAt B M (up_to s.count t) s
    → AreWithin c.harts s.harts
within_back B M n t c s now taken = record {
  count = length-saved taken.held.harts s.harts taken.saved.harts ∙ taken.stands.count ∙ sym now.count;
  given = λ h v x is_v is_x. (let of_w = saved_at taken.held.harts s.harts h x taken.saved.harts is_x in
      subst (λ (f : HartState). x.given ≤ length f.inbox)
      (sym (gone_on B M n s.count t c taken.held now taken.stands h v of_w.0 is_v of_w.1).first) of_w.2.given);
  reports = λ h v x is_v is_x. (let of_w = saved_at taken.held.harts s.harts h x taken.saved.harts is_x in
      reports_within v of_w.0 x of_w.2 (gone_on B M n s.count t c taken.held now taken.stands h v of_w.0 is_v of_w.1));
}

pub buffers_back : (B M n : ℕ) (t : History) (c : Config) (s : SnapshotView) → IsMachineAt B M t c n → IsTakenAt B M (up_to s.count t) s
    → length s.buffers ≡ length c.stored.buffers
buffers_back B M n t c s now taken = ap length taken.saved.buffers ∙ taken.stands.fit.buffers ∙ taken.stands.count ∙ sym now.count ∙ sym now.fit.buffers

pub pending_back : (B M : ℕ) (t : History) (s : SnapshotView) → IsTakenAt B M t s → All (InMemory M) s.buffers
pending_back B M t s taken = subst (All (InMemory M)) (sym taken.saved.buffers) taken.stands.fit.stored.pending

pub words_few : (B M : ℕ) (t : History) (s : SnapshotView) → IsTakenAt B M t s → length s.words ≤ M
words_few B M t s taken =
    let stored : Stored = taken.held.stored in
    let few = written_few stored.first stored.words in
    omega (arith, ap length taken.saved.words, taken.stands.fit.stored.words)

-- what is put back fits

pub fit_stored_back : (M : ℕ) (bs : List (List Write)) (ws : List ℕ) (s : Stored) → FitStored M s → length ws ≤ M
    → All (InMemory M) bs → FitStored M (restored_stored bs ws s)
fit_stored_back M bs ws s fit few pending = grind (arith, length-append, length-drop)

pub fit_back : (M : ℕ) (c : Config) (s : SnapshotView) → Fit M c → length s.buffers ≡ length c.stored.buffers → length s.words ≤ M
    → All (InMemory M) s.buffers → Fit M (restored_config s c)
fit_back M c s fit count few pending = record {
  buffers = count ∙ fit.buffers ∙ sym (length-changed put_back c.harts s.harts);
  harts = all_kept put_back (λ v. v.state.words ≡ M) (λ v x is. is) c.harts s.harts fit.harts;
  firsts = all_kept put_back (λ v. v.first.words ≡ M) (λ v x is. is) c.harts s.harts fit.firsts;
  stored = fit_stored_back M s.buffers s.words c.stored fit.stored few pending;
}
