-- What is shown of whether queues go on, where the certificate is accepted.
use Rattle.std.proofs.Common.{arith, ◌≡◌, ℕ, ◌+◌, ◌<◌, Bool, true, false, List, length, refl, ap, subst}
use Rattle.std.specs.Prelude.{All, ◌||◌, is_some, nat_lt, Option, None, Some, if◌then◌else◌}
use Rattle.std.proofs.lemmas.Bool.{and_parts, ltb-true}
use Rattle.std.proofs.lemmas.List.Elements.{All-from_recursion, All-nil}
use Rattle.step_machine.specs.Names.{OpeningValue}
use Rattle.queue_parties.specs.Parties.{Party, the_sender, the_receiver}
use Rattle.slot_queue.specs.{hart}
use Rattle.queue_certificates.specs.{QueueCertificate, accepts, queue_at}
use Rattle.queue_certificates.proofs.States.{at-below}
use Rattle.queue_progress.specs.declared.pace.Pace.{Pace}
use Rattle.queue_progress.specs.declared.pace.Progress.{Progress}
use Rattle.queue_progress.specs.declared.pace.Progress.TheVariants.{GoesOn, NoPace, NoLook, Unranked}
use Rattle.queue_progress.specs.declared.pace.ToldProgress.{ToldProgress}
use Rattle.queue_progress.specs.declared.pace.ToldProgress.TheVariants.{Within, Endless}
use Rattle.queue_progress.specs.declared.pace.ToldProgress.TheVariants as told
use Rattle.queue_progress.specs.{GoesWithin, IsHartStuck, KeepsRunning, hart_keeps_going, sides, hart_pace_of}
use Rattle.queue_progress.specs.{progress_of, keeps_going, teller_at, told_progress_of}
use Rattle.queue_progress.specs.{told_within}
use Rattle.queue_progress.specs.Laws.{BothGo, BothTell, HartsGo, PartiesGo, QueuesArrive, QueuesMove, TellersArrive, TellersGo, TellersMove}
use Rattle.records_written.specs.declared.parties.QueueNumber.{QueueNumber}
use Rattle.records_written.specs.declared.parties.QueueNumber.TheVariants.{Indexed, Tagged}
use Rattle.certifying.specs.Endings.{all_endings, both_run, endings_at, neither_stops}
use Rattle.certifying.specs.Kept.{BothMove, CanMove, KeepsGoing, LineMeans, Moves, PartyGoes, PartyMeans}
use Rattle.certifying.specs.Lines.{AnswerLine, all_going, all_going_lines, both_at, can_move, going_lines, is_going, lines_by, party_at}
use Rattle.certifying.specs.Queues.{number_by, number_in, queue_count, slots_at as queue_slots, slots_by, tagged_number}
use Rattle.certifying.specs.Questions.{Questions}
use Rattle.certifying.specs.Together.{are_several, both_in, bound_of, bound_together, pace_together, party_by, party_in, party_progress, party_told}
use Rattle.certifying.specs.declared.endings.Endings.{Endings}
use Rattle.certifying.specs.declared.together.Both.{Both}
use Rattle.certifying.specs.declared.together.Bound.{Bound}
use Rattle.certifying.specs.declared.together.PartyProgress.{PartyProgress}
use Rattle.certifying.specs.declared.together.PartyProgress.TheVariants as party
use Rattle.certifying.proofs.HartLaws.{HartLaws, runs-on, runs-or-ends}
use Rattle.certifying.proofs.LineLaws.{all-lines}
use Rattle.certifying.proofs.Numbers.{of_either}

-- what queue_progress promises of an accepted certificate
pub record GoingLaws : Type 0 where
  pub shown : (o : OpeningValue) (c : QueueCertificate) (h i : ℕ) (pace : Pace) → progress_of o c h i ≡ GoesOn pace → keeps_going o c h i pace ≡ true
  pub going : PartiesGo
  pub stands : QueuesMove
  pub arrives : QueuesArrive
  pub hart_shown : (o : OpeningValue) (c : QueueCertificate) (h : ℕ) (pace : Pace) → hart_pace_of o c h ≡ Some pace
      → hart_keeps_going o c h pace ≡ true
  pub hart_going : HartsGo
  pub told_shown : (o : OpeningValue) (c : QueueCertificate) (h t N : ℕ) → told_progress_of o c h t ≡ Within N → told_within o c h t N ≡ true
  pub told_going : TellersGo
  pub told_stands : TellersMove
  pub told_arrives : TellersArrive

-- ---- what a bound was made of

-- both go on in this queue, and wait for few enough positions
record AreMoving (capacity : ℕ) (sender receiver : PartyProgress) (both : Both) : Type 0 where
  sender_is : sender ≡ party.Alone both.sends
  receiver_is : receiver ≡ party.Alone both.receives
  few : both.sends.owned + both.receives.owned < capacity

moving : (n : ℕ) (sender receiver : PartyProgress) (both : Both) → both_in n sender receiver ≡ Some both → AreMoving n sender receiver both
moving n (party.Alone s) (party.Alone r) both is = by (nat_lt (s.owned + r.owned) n) refl is
  where
    by : (few : Bool) → nat_lt (s.owned + r.owned) n ≡ few → (if few then Some (record { sends = s; receives = r }) else None) ≡ Some both
        → AreMoving n (party.Alone s) (party.Alone r) both
    by true few is = let same : record { sends = s; receives = r } ≡ both = cc in
        subst (AreMoving n (party.Alone s) (party.Alone r)) same
        (record { sender_is = refl; receiver_is = refl; few = ltb-true (s.owned + r.owned) n few })
    by false few is = absurd (cc)
moving n (party.Alone s) (party.Together r) both is = absurd (cc)
moving n (party.Alone s) (party.NoPace k) both is = absurd (cc)
moving n (party.Alone s) (party.NoLook k) both is = absurd (cc)
moving n (party.Alone s) party.Unranked both is = absurd (cc)
moving n (party.Together s) r both is = absurd (cc)
moving n (party.NoPace k) r both is = absurd (cc)
moving n (party.NoLook k) r both is = absurd (cc)
moving n party.Unranked r both is = absurd (cc)

-- a party that goes on in this queue has a pace there
record HasPace (found : Progress) (bound : Bound) : Type 0 where
  pace : Pace
  is : found ≡ GoesOn pace
  same : record { owned = pace.owned; within = bound_of pace } ≡ bound

alone : (c : QueueCertificate) (h : ℕ) (found : Progress) (together : Option Pace) (bound : Bound) → party_by c h found together ≡ party.Alone bound
    → HasPace found bound
alone c h (GoesOn g) together bound is =
    let same : party.Alone (record { owned = g.owned; within = bound_of g }) ≡ party.Alone bound = is in
    record { pace = g; is = refl; same = cc }
alone c h (NoPace n) None bound is = absurd (cc)
alone c h (NoPace n) (Some g) bound is = absurd (cc)
alone c h (NoLook n) None bound is = absurd (cc)
alone c h (NoLook n) (Some g) bound is = absurd (cc)
alone c h Unranked None bound is = absurd (cc)
alone c h Unranked (Some g) bound is = absurd (cc)

-- one that goes on in all its queues together has one for these
record HasPaceTogether (c : QueueCertificate) (h : ℕ) (together : Option Pace) (bound : Bound) : Type 0 where
  pace : Pace
  is : together ≡ Some pace
  same : record { owned = pace.owned; within = bound_together c h pace } ≡ bound

made : (c : QueueCertificate) (h : ℕ) (g : Pace) (bound : Bound) → party.Together (record { owned = g.owned; within = bound_together c h g })
    ≡ party.Together bound → HasPaceTogether c h (Some g) bound
made c h g bound is = record { pace = g; is = refl; same = cc }

of-all : (c : QueueCertificate) (h : ℕ) (found : Progress) (together : Option Pace) (bound : Bound) → party_by c h found together ≡ party.Together bound
    → HasPaceTogether c h together bound
of-all c h (GoesOn g) together bound is = absurd (cc)
of-all c h (NoPace n) None bound is = absurd (cc)
of-all c h (NoLook n) None bound is = absurd (cc)
of-all c h Unranked None bound is = absurd (cc)
of-all c h (NoPace n) (Some g) bound is = made c h g bound is
of-all c h (NoLook n) (Some g) bound is = made c h g bound is
of-all c h Unranked (Some g) bound is = made c h g bound is

chosen : {A : Type 0} (several : Bool) (found : Option A) (x : A) → (if several then found else None) ≡ Some x → found ≡ Some x
chosen true found x is = is
chosen false found x is = absurd (cc)

-- of a party of a queue with tags
record IsWithin (found : ToldProgress) (bound : Bound) : Type 0 where
  most : ℕ
  is : found ≡ Within most
  same : record { owned = 0; within = most + 1 } ≡ bound

told-alone : (found : ToldProgress) (bound : Bound) → party_told found ≡ party.Alone bound → IsWithin found bound
told-alone (Within N) bound is =
    let same : party.Alone (record { owned = 0; within = N + 1 }) ≡ party.Alone bound = is in record { most = N; is = refl; same = cc }
told-alone (Endless n) bound is = absurd (cc)
told-alone told.Unranked bound is = absurd (cc)

not-together : (found : ToldProgress) (bound : Bound) → party_told found ≡ party.Together bound → ⊥
not-together (Within N) bound is = absurd (cc)
not-together (Endless n) bound is = absurd (cc)
not-together told.Unranked bound is = absurd (cc)

-- ---- what that means in every run

module _ (o : OpeningValue) (c : QueueCertificate) (laws : GoingLaws) (harts : HartLaws) (accepted : accepts o c ≡ true) where
  alone-in : (h i : ℕ) (bound : Bound) → party_progress o c h i ≡ party.Alone bound → HasPace (progress_of o c h i) bound
  unfolding party_progress
  alone-in h i bound is = alone c h (progress_of o c h i) (pace_together o c h) bound is

  in-all : (h i : ℕ) (bound : Bound) → party_progress o c h i ≡ party.Together bound → HasPaceTogether c h (pace_together o c h) bound
  unfolding party_progress
  in-all h i bound is = of-all c h (progress_of o c h i) (pace_together o c h) bound is

  hart-pace : (h : ℕ) (pace : Pace) → pace_together o c h ≡ Some pace → hart_pace_of o c h ≡ Some pace
  unfolding pace_together
  hart-pace h pace is = chosen (are_several (sides c h (length c.queues))) (hart_pace_of o c h) pace is

  party-goes : (i : ℕ) → i < length c.queues → (p : Party) (bound : Bound) → party_progress o c (hart (queue_at c i) p) i ≡ party.Alone bound
      → PartyGoes o c (Indexed i) p bound
  party-goes i less p bound is = let its = alone-in (hart (queue_at c i) p) i bound is in
      subst (PartyGoes o c (Indexed i) p) its.same
      (laws.going o c accepted i p less its.pace (laws.shown o c (hart (queue_at c i) p) i its.pace its.is))

  teller-goes : (t : ℕ) → t < length c.tagged → (p : Party) (bound : Bound) → party_told (told_progress_of o c (teller_at c t p) t) ≡ party.Alone bound
      → PartyGoes o c (Tagged t) p bound
  teller-goes t less p bound is = let its = told-alone (told_progress_of o c (teller_at c t p) t) bound is in
      subst (PartyGoes o c (Tagged t) p) its.same
      (laws.told_going o c accepted t p less its.most (laws.told_shown o c (teller_at c t p) t its.most its.is))

  hart-goes : (h : ℕ) (bound : Bound) → HasPaceTogether c h (pace_together o c h) bound → GoesWithin o h (IsHartStuck c h bound.owned) bound.within
  hart-goes h bound its = subst (λ (b : Bound). GoesWithin o h (IsHartStuck c h b.owned) b.within) its.same
      (laws.hart_going o c accepted h its.pace (laws.hart_shown o c h its.pace (hart-pace h its.pace its.is)))

  -- within other bounds that are the same
  moves-by : (w : QueueNumber) (s r : Bound) (both : Both) → s ≡ both.sends → r ≡ both.receives → Moves o c w (record { sends = s; receives = r })
      → Moves o c w both
  moves-by w s r both sends receives moves = subst (λ (b : Bound). Moves o c w (record { sends = b; receives = both.receives })) sends
      (subst (λ (b : Bound). Moves o c w (record { sends = s; receives = b })) receives moves)

  -- ---- of a queue

  indexed-means : (i : ℕ) → i < length c.queues → (p : Party) (found : PartyProgress) → party_progress o c (hart (queue_at c i) p) i ≡ found
      → PartyMeans o c (Indexed i) p found
  indexed-means i less p (party.Alone bound) is = party-goes i less p bound is
  indexed-means i less p (party.Together bound) is = hart-goes (hart (queue_at c i) p) bound (in-all (hart (queue_at c i) p) i bound is)
  indexed-means i less p (party.NoPace n) is = tt
  indexed-means i less p (party.NoLook n) is = tt
  indexed-means i less p party.Unranked is = tt

  tagged-means : (t : ℕ) → t < length c.tagged → (p : Party) (found : PartyProgress) → party_told (told_progress_of o c (teller_at c t p) t) ≡ found
      → PartyMeans o c (Tagged t) p found
  tagged-means t less p (party.Alone bound) is = teller-goes t less p bound is
  tagged-means t less p (party.Together bound) is = absurd (not-together (told_progress_of o c (teller_at c t p) t) bound is)
  tagged-means t less p (party.NoPace n) is = tt
  tagged-means t less p (party.NoLook n) is = tt
  tagged-means t less p party.Unranked is = tt

  module _ (i : ℕ) (less : i < length c.queues) (both : Both)
      (m : AreMoving (queue_at c i).capacity (party_progress o c (queue_at c i).sender i) (party_progress o c (queue_at c i).receiver i) both) where
    s : HasPace (progress_of o c (queue_at c i).sender i) both.sends
    s = alone-in (queue_at c i).sender i both.sends m.sender_is

    r : HasPace (progress_of o c (queue_at c i).receiver i) both.receives
    r = alone-in (queue_at c i).receiver i both.receives m.receiver_is

    both-go : BothGo o c i s.pace r.pace
    both-go = record {
      inside = less;
      few = omega (arith, ap (λ (b : Bound). b.owned) s.same, ap (λ (b : Bound). b.owned) r.same, m.few);
      sends = laws.shown o c (queue_at c i).sender i s.pace s.is;
      receives = laws.shown o c (queue_at c i).receiver i r.pace r.is;
    }

    indexed-moves : BothMove o c (Indexed i) both
    indexed-moves = (
      party-goes i less the_sender both.sends m.sender_is,
      party-goes i less the_receiver both.receives m.receiver_is,
      moves-by (Indexed i) _ _ both s.same r.same (laws.stands o c accepted i s.pace r.pace both-go),
    )

    indexed-can : (M : ℕ) (run : Bool) → ((B : ℕ) → KeepsRunning run B M o (queue_at c i).sender) → ((B : ℕ) → KeepsRunning run B M o (queue_at c i).receiver)
        → CanMove o c (Indexed i) M run
    indexed-can M run one other B some = laws.arrives B M o c accepted i s.pace r.pace both-go some run (one B) (other B)

  module _ (t : ℕ) (less : t < length c.tagged) (both : Both) (capacity : ℕ)
      (m : AreMoving capacity (party_told (told_progress_of o c (teller_at c t the_sender) t))
      (party_told (told_progress_of o c (teller_at c t the_receiver) t))
      both) where
    told-s : IsWithin (told_progress_of o c (teller_at c t the_sender) t) both.sends
    told-s = told-alone (told_progress_of o c (teller_at c t the_sender) t) both.sends m.sender_is

    told-r : IsWithin (told_progress_of o c (teller_at c t the_receiver) t) both.receives
    told-r = told-alone (told_progress_of o c (teller_at c t the_receiver) t) both.receives m.receiver_is

    both-tell : BothTell o c t told-s.most told-r.most
    both-tell = record {
      inside = less;
      sends = laws.told_shown o c (teller_at c t the_sender) t told-s.most told-s.is;
      receives = laws.told_shown o c (teller_at c t the_receiver) t told-r.most told-r.is;
    }

    tagged-moves : BothMove o c (Tagged t) both
    tagged-moves = (
      teller-goes t less the_sender both.sends m.sender_is,
      teller-goes t less the_receiver both.receives m.receiver_is,
      moves-by (Tagged t) _ _ both told-s.same told-r.same (laws.told_stands o c accepted t told-s.most told-r.most both-tell),
    )

    tagged-can : (M : ℕ) (run : Bool) → ((B : ℕ) → KeepsRunning run B M o (teller_at c t the_sender))
        → ((B : ℕ) → KeepsRunning run B M o (teller_at c t the_receiver))
        → CanMove o c (Tagged t) M run
    tagged-can M run one other B some = laws.told_arrives B M o c accepted t told-s.most told-r.most both-tell some run (one B) (other B)

  -- what is shown of it, in which hart g sends to hart h
  record IsShown (w : QueueNumber) (g h : ℕ) (sender receiver : PartyProgress) (capacity : ℕ) : Type 0 where
    sends : PartyMeans o c w the_sender sender
    receives : PartyMeans o c w the_receiver receiver
    moves : (both : Both) → both_in capacity sender receiver ≡ Some both → BothMove o c w both
    can : (both : Both) → both_in capacity sender receiver ≡ Some both → (M : ℕ) (run : Bool)
        → ((B : ℕ) → KeepsRunning run B M o g) → ((B : ℕ) → KeepsRunning run B M o h) → CanMove o c w M run

  abbrev ShownBy : (i : ℕ) → (t : Option ℕ) → Type 0
  ShownBy i t = IsShown (number_by i t) (slots_by c i t).sender (slots_by c i t).receiver (party_in o c (number_by i t) (slots_by c i t).sender)
      (party_in o c (number_by i t) (slots_by c i t).receiver) (slots_by c i t).capacity

  indexed-shown : (i : ℕ) → i < length c.queues → ShownBy i None
  indexed-shown i less = record {
    sends = indexed-means i less the_sender (party_progress o c (queue_at c i).sender i) refl;
    receives = indexed-means i less the_receiver (party_progress o c (queue_at c i).receiver i) refl;
    moves = λ both is. indexed-moves i less both (moving _ _ _ both is);
    can = λ both is. indexed-can i less both (moving _ _ _ both is);
  }

  tagged-shown : (t : ℕ) → t < length c.tagged → ShownBy (length c.queues + t) (Some t)
  tagged-shown t less = record {
    sends = tagged-means t less the_sender (party_told (told_progress_of o c (teller_at c t the_sender) t)) refl;
    receives = tagged-means t less the_receiver (party_told (told_progress_of o c (teller_at c t the_receiver) t)) refl;
    moves = λ both is. tagged-moves t less both _ (moving _ _ _ both is);
    can = λ both is. tagged-can t less both _ (moving _ _ _ both is);
  }

  shown-of : (i : ℕ) → i < queue_count c → ShownBy i (tagged_number c i)
  shown-of = of_either c ShownBy indexed-shown tagged-shown

  -- ---- its lines

  module _ (M : ℕ) (asked : Questions) where
    abbrev ends : List Endings
    ends = all_endings M o c true

    abbrev Mean : AnswerLine → Type 0
    Mean = LineMeans M asked o c

    can-mean : (i : ℕ) → i < queue_count c → (both : Both) → both_in (queue_slots c i).capacity (party_in o c (number_in c i) (queue_slots c i).sender)
        (party_in o c (number_in c i) (queue_slots c i).receiver) ≡ Some both
        → (unstopped run : Bool) → neither_stops (endings_at ends (queue_slots c i).sender) (endings_at ends (queue_slots c i).receiver) ≡ unstopped
        → both_run (endings_at ends (queue_slots c i).sender) (endings_at ends (queue_slots c i).receiver) ≡ run → Mean (can_move i unstopped run)
    can-mean i less both is false run none always = tt
    can-mean i less both is true true none always = (shown-of i less).can both is M true
        (runs-on o c harts accepted M (queue_slots c i).sender (and_parts _ _ always).0)
        (runs-on o c harts accepted M (queue_slots c i).receiver (and_parts _ _ always).1)
    can-mean i less both is true false none always = (shown-of i less).can both is M false
        (runs-or-ends o c harts accepted M (queue_slots c i).sender (and_parts _ _ none).0)
        (runs-or-ends o c harts accepted M (queue_slots c i).receiver (and_parts _ _ none).1)

    lines-mean : (i : ℕ) → i < queue_count c → (both : Option Both) → both_in (queue_slots c i).capacity
        (party_in o c (number_in c i) (queue_slots c i).sender) (party_in o c (number_in c i) (queue_slots c i).receiver) ≡ both
        → All Mean (lines_by ends i (queue_slots c i) (party_in o c (number_in c i) (queue_slots c i).sender)
        (party_in o c (number_in c i) (queue_slots c i).receiver) both)
    lines-mean i less (Some both) is = All-from_recursion Mean (lines_by ends i (queue_slots c i) (party_in o c (number_in c i) (queue_slots c i).sender)
        (party_in o c (number_in c i) (queue_slots c i).receiver) (Some both)) (
          (shown-of i less).moves both is,
          (
            can-mean i less both is (neither_stops (endings_at ends (queue_slots c i).sender)
                (endings_at ends (queue_slots c i).receiver)) (both_run (endings_at ends (queue_slots c i).sender) (endings_at ends (queue_slots c i).receiver))
                refl refl,
            tt,
          ),
        )
    lines-mean i less None is = All-from_recursion Mean (lines_by ends i (queue_slots c i) (party_in o c (number_in c i) (queue_slots c i).sender)
        (party_in o c (number_in c i) (queue_slots c i).receiver) None) ((shown-of i less).sends, ((shown-of i less).receives, (tt, tt)))

    queue-means : (i : ℕ) → i < queue_count c → All Mean (going_lines o c ends i)
    unfolding going_lines both_at party_at
    queue-means i less = lines-mean i less (both_in (queue_slots c i).capacity (party_in o c (number_in c i) (queue_slots c i).sender)
        (party_in o c (number_in c i) (queue_slots c i).receiver)) refl

  -- they are asked for where this is, and where harts are
  pub going-means : (M : ℕ) (asked : Questions) (progress also : Bool)
      → All (LineMeans M asked o c) (all_going_lines o c (all_endings M o c (progress || also)) progress)
  going-means M asked false also = All-nil (LineMeans M asked o c)
  going-means M asked true also = all-lines (LineMeans M asked o c) (going_lines o c (all_endings M o c true)) (queue_count c) (queue-means M asked)

  some-both : (i : ℕ) → i < queue_count c → is_going o c i ≡ true → (both : Both) × BothMove o c (number_in c i) both
  unfolding both_at party_at
  some-both i less is = by _ refl is
    where
      by : (both : Option Both) → both_in (queue_slots c i).capacity (party_in o c (number_in c i) (queue_slots c i).sender)
          (party_in o c (number_in c i) (queue_slots c i).receiver) ≡ both → is_some both ≡ true → (both : Both) × BothMove o c (number_in c i) both
      by None none is = absurd (cc)
      by (Some both) some is = (both, (shown-of i less).moves both some)

  pub keeps-going : (asked : Bool) → all_going o c asked ≡ true → KeepsGoing asked o c
  keeps-going false is = tt
  keeps-going true is = λ i less. some-both i less (at-below (queue_count c) (is_going o c) is i less)
