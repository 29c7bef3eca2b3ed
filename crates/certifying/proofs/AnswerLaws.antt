-- What answers a litmus text and a certificate is one answer, and what it promises holds.
use Rattle.std.proofs.Common.{arith, ◌≡◌, ◌&&◌, ℕ, ◌+◌, ◌<◌, ◌↔◌, ◌++◌, Bool, true, false, List, [], ◌∷◌, length}
use Rattle.std.proofs.Common.{Result, Ok, Err, refl, sym, ap, ap₂, ◌∙◌, subst, append-nil, append_assoc, inr, zero, suc}
use Rattle.std.specs.Prelude.{All, Option, Some, None, is_some, not, option_map}
use Rattle.std.proofs.lemmas.Bool.{and_parts}
use Rattle.std.proofs.lemmas.List.Elements.{All-append, All-cons, All-from_recursion}
use Rattle.step_machine.specs.Names.{OpeningValue, history_of, WellFormed}
use Rattle.step_machine.specs.declared.events.Entry.{Entry}
use Rattle.step_machine.proofs.Happening.{no_hart}
use Rattle.texts.specs.Results.{map_err}
use Rattle.litmus.specs.LitmusTests.{LitmusTest}
use Rattle.drawn_runs.specs.Samples.{DrawnRuns}
use Rattle.queue_parties.specs.Parties.{Party, all_at, the_sender, the_receiver}
use Rattle.slot_queue.specs.Ownership.{hart}
use Rattle.certified_runs.specs.TwoParties.{EachIs}
use Rattle.slots_that_tell.specs.Telling.{teller_hart}
use Rattle.queue_layouts.specs.Tagged.{slots_of}
use Rattle.queue_certificates.specs.{LoadsRestOwned, telling, ReadsOwned, QueueCertificate, queue_at, start_at, tagged_at, tagged_start, accepts, accepts_loads}
use Rattle.queue_certificates.specs.{accepts_rest}
use Rattle.queue_checker.specs.declared.flaws.Flaw.{Flaw}
use Rattle.queue_checker.specs.Flaws.{first_below, first_flaw, first_of, first_unowned, first_unowned_rest}
use Rattle.records_written.specs.{OwnsReads}
use Rattle.engine_support.specs.declared.fault.Refusal.{Refusal}
use Rattle.engine_support.specs.{read, tests}
use Rattle.engine_support.proofs.InputLaws.{IsOne, alike_after, is_one, one_litmus_text}
use Rattle.certifying.specs.Answers.{AreLinesAfter, IsAcceptedAnswer, IsAnswerTo, IsCertificateAnswer, IsFlawAnswer, IsQueueAnswer, IsTrialAnswer}
use Rattle.certifying.specs.Answers.{IsUseAnswer, is_of_queue, kept_answer, texts}
use Rattle.certifying.specs.Questions.{Questions, SaysCertificate, certificate_of, certificates}
use Rattle.certifying.specs.Kept.{AreSameAnswers, AreJudged, AreQueueAnswers, IsMeant, IsPromised, KeepsIndexed, KeepsTags, LoadsOwnedSlots}
use Rattle.certifying.specs.Kept.{LoadsTagsOrOwned, MayHaveSchedule, LineMeans, OwnedLoads, Protocols, ReceivesFields}
use Rattle.certifying.specs.Lines.{AnswerLine, all_going, all_going_lines, all_shown, ends_asked, first_line, first_line_of, harts_lines, harts_safe}
use Rattle.certifying.specs.Lines.{judgement_of, limits, answer_lines, records_from, the_protocol, the_queues}
use Rattle.certifying.specs.Queues.{number_by, number_in, queue_count, slots_at, slots_by, tagged_number}
use Rattle.certifying.specs.Records.{AreFound, are_once, are_read, are_written}
use Rattle.certifying.specs.declared.records.QueueRecords.{QueueRecords}
use Rattle.certifying.specs.Unread.{first_unread, unowned_by, unread_by, unread_of}
use Rattle.certifying.specs.Unused.{first_unused}
use Rattle.certifying.specs.declared.endings.Endings.{Endings}
use Rattle.certifying.specs.declared.judgement.Judgement.{Judgement}
use Rattle.certifying.specs.declared.judgement.Judgement.TheVariants as judgement
use Rattle.certifying.specs.declared.unread.Unread.{Unread}
use Rattle.certifying.specs.declared.unused.Unused.{Unused}
use Rattle.certifying.proofs.DrawnLaws.{DrawnLaws, SomeSlots, breaks-and-loses, breaks-otherwise, no_first, none-below, one-trial, sized}
use Rattle.certifying.proofs.GoingLaws.{GoingLaws, going-means, keeps-going}
use Rattle.certifying.proofs.HartLaws.{HartLaws, harts-mean, keeps-harts}
use Rattle.certifying.proofs.LineLaws.{whole}
use Rattle.certifying.proofs.Numbers.{is_indexed, is_tagged, of_either}
use Rattle.certifying.proofs.RecordLaws.{FirstLaws, RecordLaws, keeps-records, one-in, records-mean}

-- ---- one answer

said_once : (text : List ℕ) (c d : QueueCertificate) → SaysCertificate text c → SaysCertificate text d → c ≡ d
said_once text c d is other = let same : Ok c ≡ Ok d = sym is ∙ other in cc

read_as : (text : List ℕ) (c : QueueCertificate) → SaysCertificate text c → certificate_of text ≡ Ok c
unfolding certificate_of
read_as text c is = ap (map_err _) is

one_certificate : IsOne certificates (λ r s. r ≡ s)
one_certificate = is_one SaysCertificate certificate_of said_once read_as

alike : (a b judged : List ℕ × Judgement) → a ≡ judged → b ≡ judged → AreSameAnswers a b
alike a b judged is other = let same : a ≡ b = is ∙ sym other in (ap (λ (x : List ℕ × Judgement). x.1) same, λ shows. ap (λ (x : List ℕ × Judgement). x.0) same)

module _ (laws : DrawnLaws) (firsts : FirstLaws) (d : DrawnRuns) (asked : Questions) (o : OpeningValue) (c : QueueCertificate) where
  one_use : (u : Option Unused) (a b : List ℕ × Judgement) → IsUseAnswer d.M asked o c u a → IsUseAnswer d.M asked o c u b → AreSameAnswers a b
  one_use None a b is other =
      let same = one-in firsts o c asked (not (is_some (first_unread o c))) is.found other.found is.are_found other.are_found in
      alike a b (kept_answer d.M asked o c other.found) (is.answer_is ∙ ap (kept_answer d.M asked o c) same) other.answer_is
  one_use (Some unused) a b is other = alike a b _ is other

  -- what follows an answer without a schedule is nothing
  no_lines : (j : Judgement) (lines : List ℕ) → (MayHaveSchedule j → ⊥) → AreLinesAfter d o c j lines → lines ≡ []
  no_lines judgement.Kept lines none are = are
  no_lines judgement.ReadsNotShown lines none are = absurd (none (inr (inr refl)))
  no_lines judgement.ProgressNotShown lines none are = are
  no_lines judgement.AskedNotShown lines none are = are
  no_lines judgement.NotShown lines none are = are
  no_lines judgement.Broken lines none are = are
  no_lines judgement.OtherProtocol lines none are = are

  one_accepted : (a b : List ℕ × Judgement) → IsAcceptedAnswer d asked o c a → IsAcceptedAnswer d asked o c b → AreSameAnswers a b
  one_accepted a b is other = (kind, λ none. text (λ may. none (subst MayHaveSchedule (sym at) may)))
    where
      same : AreSameAnswers is.used other.used
      same = one_use (first_unused o c) is.used other.used is.is_used other.is_used

      at : a.1 ≡ is.used.1
      at = ap (λ (x : List ℕ × Judgement). x.1) is.answer_is

      kind : a.1 ≡ b.1
      kind = at ∙ same.0 ∙ sym (ap (λ (x : List ℕ × Judgement). x.1) other.answer_is)

      text : (MayHaveSchedule is.used.1 → ⊥) → a.0 ≡ b.0
      text none = ap (λ (x : List ℕ × Judgement). x.0) is.answer_is
          ∙ ap₂ (λ (x y : List ℕ). x ++ y) (same.1 none) (no_lines is.used.1 is.lines none is.are_lines
          ∙ sym (no_lines other.used.1 other.lines (λ may. none (subst MayHaveSchedule (sym same.0) may)) other.are_lines))
          ∙ sym (ap (λ (x : List ℕ × Judgement). x.0) other.answer_is)

  one_flaw : (f : Flaw) → first_flaw o c ≡ Some f → (of_queue : Bool) → is_of_queue f ≡ of_queue → (a b : List ℕ × Judgement)
      → IsFlawAnswer d o c f of_queue a → IsFlawAnswer d o c f of_queue b → AreSameAnswers a b
  one_flaw f first true queue a b is other = alike a b _ is other
  one_flaw f first false none a b is other = one-trial d o c laws (sized o c f first none) f a b is other

  one_by : (f : Option Flaw) → first_flaw o c ≡ f → (a b : List ℕ × Judgement) → IsAnswerTo d asked o c f a → IsAnswerTo d asked o c f b
      → AreSameAnswers a b
  one_by None first a b is other = one_accepted a b is other
  one_by (Some f) first a b is other = one_flaw f first (is_of_queue f) refl a b is other

  one_judged : (a b : Result (List ℕ × Judgement) Refusal) → IsCertificateAnswer d asked o c a → IsCertificateAnswer d asked o c b
      → AreQueueAnswers a b
  one_judged (Ok a) (Ok b) is other = one_by (first_flaw o c) refl a b is other
  one_judged (Ok a) (Err s) is other = other
  one_judged (Err r) (Ok b) is other = is
  one_judged (Err r) (Err s) is other = ap (λ (x : Refusal). x.number) (is ∙ sym other)

pub one_queue_answer : (laws : DrawnLaws) (firsts : FirstLaws) (d : DrawnRuns) (asked : Questions) (file certificate : List ℕ)
    (a b : Result (List ℕ × Judgement) Refusal) → IsQueueAnswer d asked (Some file) (Some certificate) a
    → IsQueueAnswer d asked (Some file) (Some certificate) b → AreQueueAnswers a b
one_queue_answer laws firsts d asked file certificate =
    alike_after tests (λ r s. r.number ≡ s.number) one_litmus_text AreQueueAnswers (λ r s e. e) file _
    (λ (q : LitmusTest). alike_after certificates (λ r s. r ≡ s) one_certificate AreQueueAnswers
    (λ r s e. ap (λ (x : Refusal). x.number) e) certificate (IsCertificateAnswer d asked q.opening) (λ c. one_judged laws firsts d asked q.opening c))

-- ---- the first load that isn't shown is of a queue

first-within : {A : Type 0} (f : ℕ → Option A) (n : ℕ) (x : A) → first_below n f ≡ Some x → (i : ℕ) × (i < n) × (f i ≡ Some x)
first-within f zero x is = absurd (cc)
first-within f (suc n) x is = at (λ earlier. first-within f n x earlier) (first_below n f) refl is
  where
    at : (first_below n f ≡ Some x → (i : ℕ) × (i < n) × (f i ≡ Some x)) → (before : Option _) → first_below n f ≡ before → first_of before (f n) ≡ Some x
        → (i : ℕ) × (i < suc n) × (f i ≡ Some x)
    at rest None none here = (n, omega arith, here)
    at rest (Some y) some here = let found = rest (some ∙ here) in (found.0, omega (arith, found.1), found.2)

module _ (o : OpeningValue) (c : QueueCertificate) where
  of-queue : (i h : ℕ) (n : Option ℕ) (u : Unread) → option_map (λ n. record { queue = i; hart = h; state = n }) n ≡ Some u → u.queue ≡ i
  of-queue i h None u is = absurd (cc)
  of-queue i h (Some n) u is = let same : record { queue = i; hart = h; state = n } ≡ u = cc in sym (ap (λ (x : Unread). x.queue) same)

  pub unread-inside : (u : Unread) → first_unread o c ≡ Some u → u.queue < queue_count c
  unread-inside u is = let found = first-within (unread_of o c) (queue_count c) u is in
      let same : u.queue ≡ found.0 = by found.0 (unread_by o c found.0 (slots_at c found.0).sender) refl found.2 in
      omega (arith, same, found.1)
    where
      by : (i : ℕ) (sends : Option Unread) → unread_by o c i (slots_at c i).sender ≡ sends
          → first_of sends (unread_by o c i (slots_at c i).receiver) ≡ Some u → u.queue ≡ i
      by i None none is = of-queue i (slots_at c i).receiver (unowned_by o c i (tagged_number c i) (slots_at c i).receiver) u is
      by i (Some v) some is = of-queue i (slots_at c i).sender (unowned_by o c i (tagged_number c i) (slots_at c i).sender) u (some ∙ is)

-- ---- what is promised

-- what the crates below promise: of the checker, of accepted certificates, and of drawn runs
pub record Laws : Type 0 where
  pub no_flaw : (o : OpeningValue) (c : QueueCertificate) → (first_flaw o c ≡ None) ↔ (accepts o c ≡ true)
  pub all_owned : (o : OpeningValue) (c : QueueCertificate) (i h : ℕ) → (first_unowned o c i h ≡ None) ↔ (accepts_loads o c i h ≡ true)
  pub all_rest : (o : OpeningValue) (c : QueueCertificate) (t h : ℕ) → (first_unowned_rest o c t h ≡ None) ↔ (accepts_rest o c t h ≡ true)
  pub every_run : (o : OpeningValue) (c : QueueCertificate) → accepts o c ≡ true → KeepsIndexed o c
  pub tells : (o : OpeningValue) (c : QueueCertificate) → accepts o c ≡ true → KeepsTags o c
  pub sent : (o : OpeningValue) (c : QueueCertificate) → accepts o c ≡ true → ReceivesFields o c
  pub reads_owned : (B M : ℕ) (o : OpeningValue) (c : QueueCertificate) → accepts o c ≡ true → (i : ℕ) (p : Party) → i < length c.queues
      → accepts_loads o c i (hart (queue_at c i) p) ≡ true → (es : List Entry) → WellFormed B M (history_of o es)
      → ReadsOwned (queue_at c i) p (all_at (start_at c i)) es
  pub rest_owned : (B M : ℕ) (o : OpeningValue) (c : QueueCertificate) → accepts o c ≡ true → (t : ℕ) (p : Party) → t < length c.tagged
      → accepts_rest o c t (teller_hart (slots_of (tagged_at c t)) p) ≡ true → (es : List Entry) → WellFormed B M (history_of o es)
      → EachIs (telling (slots_of (tagged_at c t))) (teller_hart (slots_of (tagged_at c t)) p) (LoadsRestOwned (slots_of (tagged_at c t)) p)
      (all_at (tagged_start c t)) es
  pub going : GoingLaws
  pub records : RecordLaws
  pub harts : HartLaws
  pub drawn : DrawnLaws

module _ (laws : Laws) (o : OpeningValue) (c : QueueCertificate) where
  -- no state of a queue's parties has such a load
  abbrev AreRead : (i : ℕ) → (t : Option ℕ) → Type 0
  AreRead i t = (unowned_by o c i t (slots_by c i t).sender ≡ None) × (unowned_by o c i t (slots_by c i t).receiver ≡ None)

  none_unread : first_unread o c ≡ None → (i : ℕ) → i < queue_count c → AreRead i (tagged_number c i)
  none_unread none i less = let both = no_first _ _ (none-below (unread_of o c) (queue_count c) i none less) in
      (no_hart _ _ both.0, no_hart _ _ both.1)

  all_read : first_unread o c ≡ None → (i : ℕ) → i < length c.queues → (p : Party) → accepts_loads o c i (hart (queue_at c i) p) ≡ true
  all_read none i less p = at p
    where
      both : AreRead i None
      both = subst (AreRead i) (is_indexed c i less) (none_unread none i (omega (arith, less)))

      at : (p : Party) → accepts_loads o c i (hart (queue_at c i) p) ≡ true
      at the_sender = (laws.all_owned o c i (queue_at c i).sender).0 both.0
      at the_receiver = (laws.all_owned o c i (queue_at c i).receiver).0 both.1

  all_rest_read : first_unread o c ≡ None → (t : ℕ) → t < length c.tagged → (p : Party)
      → accepts_rest o c t (teller_hart (slots_of (tagged_at c t)) p) ≡ true
  all_rest_read none t less p = at p
    where
      both : AreRead (length c.queues + t) (Some t)
      both = subst (AreRead (length c.queues + t)) (is_tagged c t) (none_unread none (length c.queues + t) (omega (arith, less)))

      at : (p : Party) → accepts_rest o c t (teller_hart (slots_of (tagged_at c t)) p) ≡ true
      at the_sender = (laws.all_rest o c t (tagged_at c t).sender).0 both.0
      at the_receiver = (laws.all_rest o c t (tagged_at c t).receiver).0 both.1

  loads : first_flaw o c ≡ None → first_unread o c ≡ None → LoadsOwnedSlots o c
  loads none owned B M es legal i less p = laws.reads_owned B M o c ((laws.no_flaw o c).0 none) i p less (all_read owned i less p) es legal

  loads_tags : first_flaw o c ≡ None → first_unread o c ≡ None → LoadsTagsOrOwned o c
  loads_tags none owned B M es legal t less p = laws.rest_owned B M o c ((laws.no_flaw o c).0 none) t p less (all_rest_read owned t less p) es legal

  keeps : first_flaw o c ≡ None → Protocols o c
  keeps none = let accepted = (laws.no_flaw o c).0 none in (laws.every_run o c accepted, laws.tells o c accepted, laws.sent o c accepted)

  -- the loads of each queue's receiver are shown to be of owned slots, or of tags
  owns : first_unread o c ≡ None → (i : ℕ) → i < queue_count c → OwnsReads o c (number_in c i)
  owns none = of_either c (λ i t. OwnsReads o c (number_by i t)) (λ i less. all_read none i less the_receiver)
      (λ t less. all_rest_read none t less the_receiver)

  none-some : (unread : Option Unread) → not (is_some unread) ≡ true → unread ≡ None
  none-some None owned = refl
  none-some (Some unread) owned = absurd (cc)

  owned : first_flaw o c ≡ None → first_unread o c ≡ None → OwnedLoads o c
  owned none own = (loads none own, loads_tags none own)

  module _ (M : ℕ) (asked : Questions) where
    abbrev ends : List Endings
    ends = ends_asked M asked o c

    abbrev Mean : AnswerLine → Type 0
    Mean = LineMeans M asked o c

    -- they are found
    abbrev Found : List QueueRecords → Type 0
    Found found = AreFound o c asked (not (is_some (first_unread o c))) found

    first-means : first_flaw o c ≡ None → (found : List QueueRecords) → Found found → (unread : Option Unread) → first_unread o c ≡ unread
        → (progress goes : Bool) → asked.progress ≡ progress → all_going o c progress ≡ goes
        → (all : Bool) → all_shown found (harts_safe o c ends asked.harts) ≡ all → Mean (first_line progress goes all unread)
    first-means none found are (Some unread) own progress goes is going all shown = keeps none
    first-means none found are None own progress false is going all shown = (keeps none, owned none own)
    first-means none found are None own progress true is going false shown =
        (keeps none, owned none own, rw is (keeps-going o c laws.going laws.harts ((laws.no_flaw o c).0 none) progress going))
    first-means none found are None own progress true is going true shown =
        let accepted = (laws.no_flaw o c).0 none in
        let both = and_parts ((are_written found && are_read found) && are_once found) (harts_safe o c ends asked.harts) shown in
        let shown = and_parts (are_written found && are_read found) (are_once found) both.0 in
        let records = and_parts (are_written found) (are_read found) shown.0 in
        let owned-found : AreFound o c asked true found = subst (λ (u : Option Unread). AreFound o c asked (not (is_some u)) found) own are in (
          keeps none,
          owned none own,
          keeps-going o c laws.going laws.harts accepted progress going,
          (
            keeps-records o c laws.records accepted asked (owns own) found owned-found records.0 records.1 shown.1,
            keeps-harts o c laws.harts accepted M asked.progress asked.harts both.1,
          ),
        )

    protocol-means : first_flaw o c ≡ None → (unread : Option Unread) → first_unread o c ≡ unread → Mean (the_protocol (not (is_some unread)))
    protocol-means none None own = (keeps none, owned none own)
    protocol-means none (Some unread) own = keeps none

    lines-mean : first_flaw o c ≡ None → (found : List QueueRecords) → Found found → All Mean (answer_lines M asked o c found)
    lines-mean none found are =
        let accepted = (laws.no_flaw o c).0 none in
        let going : List AnswerLine = all_going_lines o c ends asked.progress in
        let records : List AnswerLine = records_from asked 0 found in
        let harts : List AnswerLine = harts_lines o c ends asked.harts in
        let kept : AnswerLine = the_protocol (not (is_some (first_unread o c))) in
        let rest : AnswerLine = limits asked found (not (is_some (first_unread o c))) (all_going o c asked.progress) in
        All-cons Mean (first_line_of M asked o c found) (the_queues ∷ ((going ++ (records ++ harts)) ++ kept ∷ rest ∷ []))
        (first-means none found are (first_unread o c) refl asked.progress (all_going o c asked.progress) refl refl
        (all_shown found (harts_safe o c ends asked.harts)) refl)
        (All-cons Mean the_queues ((going ++ (records ++ harts)) ++ kept ∷ rest ∷ []) tt
        (All-append Mean (going ++ (records ++ harts)) (kept ∷ rest ∷ [])
        (All-append Mean going (records ++ harts) (going-means o c laws.going laws.harts accepted M asked asked.progress asked.harts)
        (All-append Mean records harts (records-mean o c laws.records accepted M asked (not (is_some (first_unread o c)))
        (λ owned. owns (none-some (first_unread o c) owned)) found are)
        (harts-mean o c laws.harts accepted M asked asked.progress asked.harts)))
        (All-from_recursion Mean (kept ∷ rest ∷ []) (protocol-means none (first_unread o c) refl, (tt, tt)))))

    -- whatever the judgement
    kept-means : first_flaw o c ≡ None → (found : List QueueRecords) → Found found → (text : List ℕ) (judgement : Judgement)
        → text ≡ texts o c (answer_lines M asked o c found) → judgement ≡ judgement_of (first_line_of M asked o c found)
        → IsMeant M asked o c text judgement
    kept-means none found are text judgement is judged = record {
      found = found;
      more = [];
      text_is = is ∙ sym (append-nil (texts o c (answer_lines M asked o c found)));
      judgement_is = judged;
      means = lines-mean none found are;
    }

    -- which is that of a first line
    by-first : (text : List ℕ) (progress goes all : Bool) (unread : Option Unread)
        → IsMeant M asked o c text (judgement_of (first_line progress goes all unread))
        → IsPromised M asked (text, judgement_of (first_line progress goes all unread)) o c
    by-first text progress goes all (Some unread) meant = meant
    by-first text progress false all None meant = meant
    by-first text progress true false None meant = meant
    by-first text progress true true None meant = meant

    promised_use : first_flaw o c ≡ None → (u : Option Unused) → (answer : List ℕ × Judgement) → IsUseAnswer M asked o c u answer
        → IsPromised M asked answer o c
    promised_use none None answer is = rw is.answer_is (by-first _ asked.progress (all_going o c asked.progress)
        (all_shown is.found (harts_safe o c ends asked.harts)) (first_unread o c)
        (kept-means none is.found is.are_found _ _ (whole o c M asked is.found) refl))
    promised_use none (Some unused) answer is = rw is tt

  module _ (d : DrawnRuns) (asked : Questions) where
    promised_trial : (f : Flaw) → SomeSlots o c → (answer : List ℕ × Judgement) → IsTrialAnswer d o c f answer → IsPromised d.M asked answer o c
    promised_trial f some (text, judgement.NotShown) is = tt
    promised_trial f some (text, judgement.Broken) is = breaks-and-loses d o c laws.drawn some text is
    promised_trial f some (text, judgement.OtherProtocol) is = breaks-otherwise d o c laws.drawn some text is
    promised_trial f some (text, judgement.Kept) is = absurd is
    promised_trial f some (text, judgement.ReadsNotShown) is = absurd is
    promised_trial f some (text, judgement.ProgressNotShown) is = absurd is
    promised_trial f some (text, judgement.AskedNotShown) is = absurd is

    promised_flaw : (f : Flaw) → first_flaw o c ≡ Some f → (of_queue : Bool) → is_of_queue f ≡ of_queue → (answer : List ℕ × Judgement)
        → IsFlawAnswer d o c f of_queue answer → IsPromised d.M asked answer o c
    promised_flaw f first true queue answer is = rw is tt
    promised_flaw f first false none answer is = promised_trial f (sized o c f first none) answer is

    nothing_more : (text lines : List ℕ) (j : Judgement) → lines ≡ [] → IsPromised d.M asked (text, j) o c → IsPromised d.M asked (text ++ lines, j) o c
    nothing_more text lines j none p = subst (λ (xs : List ℕ). IsPromised d.M asked (xs, j) o c)
        (sym (ap (λ (ys : List ℕ). text ++ ys) none ∙ append-nil text)) p

    -- lines may follow where reads aren't shown
    promised_more : (text lines : List ℕ) (j : Judgement) → AreLinesAfter d o c j lines → IsPromised d.M asked (text, j) o c
        → IsPromised d.M asked (text ++ lines, j) o c
    promised_more text lines judgement.ReadsNotShown are p = record {
      found = p.found;
      more = p.more ++ lines;
      text_is = ap (λ (xs : List ℕ). xs ++ lines) p.text_is ∙ append_assoc (texts o c (answer_lines d.M asked o c p.found)) p.more lines;
      judgement_is = p.judgement_is;
      means = p.means;
    }
    promised_more text lines judgement.ProgressNotShown none p = nothing_more text lines judgement.ProgressNotShown none p
    promised_more text lines judgement.AskedNotShown none p = nothing_more text lines judgement.AskedNotShown none p
    promised_more text lines judgement.Kept none p = nothing_more text lines judgement.Kept none p
    promised_more text lines judgement.NotShown none p = p
    promised_more text lines judgement.Broken none p = p
    promised_more text lines judgement.OtherProtocol none p = p

    promised_accepted : first_flaw o c ≡ None → (answer : List ℕ × Judgement) → IsAcceptedAnswer d asked o c answer → IsPromised d.M asked answer o c
    promised_accepted none answer is = rw is.answer_is (promised_more is.used.0 is.lines is.used.1 is.are_lines
        (promised_use d.M asked none (first_unused o c) is.used is.is_used))

    promised_by : (f : Option Flaw) → first_flaw o c ≡ f → (answer : List ℕ × Judgement) → IsAnswerTo d asked o c f answer
        → IsPromised d.M asked answer o c
    promised_by None first answer is = promised_accepted first answer is
    promised_by (Some f) first answer is = promised_flaw f first (is_of_queue f) refl answer is

    promised_of : (answer : List ℕ × Judgement) → IsAnswerTo d asked o c (first_flaw o c) answer → IsPromised d.M asked answer o c
    promised_of answer is = promised_by (first_flaw o c) refl answer is

pub promised : (laws : Laws) (d : DrawnRuns) (asked : Questions) (file certificate : Option (List ℕ)) (text : List ℕ) (judgement : Judgement)
    → IsQueueAnswer d asked file certificate (Ok (text, judgement)) → AreJudged file certificate (IsPromised d.M asked (text, judgement))
promised laws d asked file certificate text judgement (read q _ is_test (read c _ is_certificate is)) = record {
  test = q;
  listed = c;
  file_is = is_test;
  certificate_is = is_certificate;
  holds = promised_of laws q.opening c d asked (text, judgement) is;
}
