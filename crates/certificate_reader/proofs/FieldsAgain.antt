-- Fields, and which of them are right, as they are written, are read again.
use Rattle.std.proofs.Common.{◌≡◌, ℕ, zero, suc, ◌+◌, ◌^◌, ◌<◌, ◌≤◌, true, nat_lt, List, [], ◌∷◌, ◌++◌, length, map, replicate, get_or, Ok, refl, sym, ap}
use Rattle.std.proofs.Common.{subst, ◌∙◌, arith}
use Rattle.std.specs.Prelude.{codes}
use Rattle.std.specs.List.{AllByRecursion, list_all}
use Rattle.std.specs.Fmt.{decimal}
use Rattle.std.proofs.lemmas.Bool.{lt-leb, lt-ltb}
use Rattle.std.proofs.lemmas.List.{reverse-reverse, get_or_past}
use Rattle.queue_certificates.specs.{Field, OpenedQueue, no_queue}
use Rattle.queue_certificates.specs.Filled.{Filled}
use Rattle.certificate_reader.specs.declared.stages.Keyword.TheVariants as keyword
use Rattle.certificate_reader.specs.declared.stages.Stage.{Stage}
use Rattle.certificate_reader.specs.declared.stages.Stage.TheVariants as stage
use Rattle.certificate_reader.specs.Stages.{keyword_named, stage_after, is_queues, is_described}
use Rattle.certificate_reader.specs.Fields.{field_of, with_field, fields_listed_in, put_in, with_filled}
use Rattle.certificate_reader.specs.Drafts.{DraftValue}
use Rattle.certificate_reader.specs.Writing.{field_numbers, field_line, slot_line, slot_lines, filled_lines}
use Rattle.certificate_reader.specs.Written.{FitsField, EndsFull, FitsSlots, FitsFilled, FitsQueue}
use Rattle.certificate_reader.proofs.Growing.{reverse_pushed}
use Rattle.certificate_reader.proofs.Placing.{placed_after, get_put, put_again}
use Rattle.certificate_reader.proofs.NumbersAgain.{first_word_again, first_count_again, counts_again}
use Rattle.certificate_reader.proofs.LinesAgain.{LeadsTo, line_told, IsHeld, at_stage}
use Rattle.certificate_reader.proofs.Turns.{all_at, each_line, each_full}

-- ---- the fields of a queue

field_again : (f : Field) → FitsField f → field_of (map decimal (field_numbers f)) ≡ Ok f
unfolding field_of
field_again f fits = rw (
  first_word_again f.at (decimal f.width ∷ decimal f.low ∷ decimal f.step ∷ decimal f.count ∷ []) fits.at,
  first_word_again f.width (decimal f.low ∷ decimal f.step ∷ decimal f.count ∷ []) fits.width,
  first_count_again f.low (decimal f.step ∷ decimal f.count ∷ []) fits.low,
  first_count_again f.step (decimal f.count ∷ []) fits.step,
  first_count_again f.count [] fits.count,
) refl

abbrev with_fields : OpenedQueue → List Field → OpenedQueue
with_fields q fields = record q { fields = fields }

field_made : (queues : List OpenedQueue) (q : OpenedQueue) (fields : List Field) (f : Field) → length fields < 16 → FitsField f
    → with_field (queues ++ with_fields q fields ∷ []) (map decimal (field_numbers f)) ≡ Ok (queues ++ with_fields q (fields ++ f ∷ []) ∷ [])
unfolding with_field
field_made queues q fields f few fits =
    rw (reverse_pushed queues (with_fields q fields), field_again f fits, lt-leb 16 (length fields) few, reverse-reverse queues) refl

abbrev pub IsQueues : Stage → Type 0
IsQueues s = is_queues s ≡ true

-- a draft whose queues are these
abbrev pub with_queues : DraftValue → List OpenedQueue → Stage → DraftValue
with_queues d qs s = record d { queues = qs; stage = s }

field_told : (d : DraftValue) (queues : List OpenedQueue) (q : OpenedQueue) (before : List Field) (f : Field) (s : Stage) → length before < 16 → FitsField f
    → IsQueues s → LeadsTo (IsHeld IsQueues (with_queues d (queues ++ with_fields q (before ++ f ∷ []) ∷ [])))
    (with_queues d (queues ++ with_fields q before ∷ []) s) (field_line f ∷ [])
unfolding keyword_named stage_after
field_told d queues q before f s few fits is =
    let new = with_queues d (queues ++ with_fields q (before ++ f ∷ []) ∷ []) in
    line_told (IsHeld IsQueues new) (with_queues d (queues ++ with_fields q before ∷ []) s) (new s) (codes "field") (map decimal (field_numbers f))
    keyword.Field stage.Queues refl (rw is refl) (rw (field_made queues q before f few fits) refl) (at_stage IsQueues new stage.Queues refl)

pub fields_told : (d : DraftValue) (queues : List OpenedQueue) (q : OpenedQueue) (s : Stage) → length q.fields ≤ 16 → AllByRecursion FitsField q.fields
    → IsQueues s → LeadsTo (IsHeld IsQueues (with_queues d (queues ++ q ∷ []))) (with_queues d (queues ++ with_fields q [] ∷ []) s) (map field_line q.fields)
fields_told d queues q s few all is = each_line FitsField IsQueues (λ fields. with_queues d (queues ++ with_fields q fields ∷ [])) field_line q.fields
    (λ before f t fewer fits is_t. field_told d queues q before f t (omega arith) fits is_t) s is all

-- ---- how many there are

pub record AreFew (qs : List OpenedQueue) : Type 0 where
  pub queues : length qs ≤ 16
  pub fields : (i : ℕ) → length (get_or qs i no_queue).fields ≤ 16

few_fields : (qs : List OpenedQueue) → AllByRecursion FitsQueue qs → (i : ℕ) → length (get_or qs i no_queue).fields ≤ 16
few_fields [] all i = omega arith
few_fields (q ∷ qs) all zero = all.0.few_fields
few_fields (q ∷ qs) all (suc i) = few_fields qs all.1 i

pub are_few : (qs : List OpenedQueue) → length qs ≤ 16 → AllByRecursion FitsQueue qs → AreFew qs
are_few qs few all = record { queues = few; fields = few_fields qs all }

-- ---- a line of what is right

below_count : (k : ℕ) (fields : List ℕ) → k ≤ 16 → AllByRecursion (λ field. field < k) fields → AllByRecursion (λ n. n ≤ 2 ^ 32) fields
below_count k [] few all = tt
below_count k (f ∷ fields) few all = (omega (arith, all.0), below_count k fields few all.1)

below_all : (k : ℕ) (fields : List ℕ) → AllByRecursion (λ field. field < k) fields → list_all (λ field. nat_lt field k) fields ≡ true
below_all k [] all = refl
below_all k (f ∷ fields) all = rw (lt-ltb f k all.0, below_all k fields all.1) refl

numbers_again : (k f : ℕ) (fields : List ℕ) → k ≤ 16 → AllByRecursion (λ field. field < k) (f ∷ fields)
    → fields_listed_in k (map decimal (f ∷ fields)) ≡ Ok (f ∷ fields)
unfolding fields_listed_in
numbers_again k f fields few all = rw (counts_again (f ∷ fields) (below_count k (f ∷ fields) few all), below_all k (f ∷ fields) all) refl

-- what is right of queues, with these slots of queue i
abbrev joined : List Filled → (i : ℕ) → Filled → List Filled
joined before i [] = before
joined before i (slot ∷ slots) = put_in before i (slot ∷ slots)

joined_some : (before : List Filled) (i : ℕ) (slots : Filled) (x : List ℕ) → joined before i (slots ++ x ∷ []) ≡ put_in before i (slots ++ x ∷ [])
joined_some before i [] x = refl
joined_some before i (slot ∷ slots) x = refl

slot_placed : (before : List Filled) (i k : ℕ) (slots : Filled) (x : List ℕ) → length before ≤ i
    → put_in (joined before i slots) i (put_in (get_or (joined before i slots) i []) (length slots + k) x) ≡ joined before i (slots ++ replicate k [] ++ x ∷ [])
slot_placed before i k slots x place = put slots ∙ ap (put_in before i) (placed_after slots k x) ∙ sym (joined_some before i (slots ++ replicate k []) x)
  where
    put : (ys : Filled)
        → put_in (joined before i ys) i (put_in (get_or (joined before i ys) i []) (length slots + k) x) ≡ put_in before i (put_in ys (length slots + k) x)
    put [] = ap (λ ys. put_in before i (put_in ys (length slots + k) x)) (get_or_past before i [] place)
    put (y ∷ ys) = put_again before i (y ∷ ys) (put_in (get_or (put_in before i (y ∷ ys)) i []) (length slots + k) x)
        ∙ ap (λ zs. put_in before i (put_in zs (length slots + k) x)) (get_put before i (y ∷ ys))

abbrev pub IsDescribed : Stage → Type 0
IsDescribed s = is_described s ≡ true

abbrev pub with_all_filled : DraftValue → List Filled → Stage → DraftValue
with_all_filled d filled s = record d { filled = filled; stage = s }

filled_made : (qs : List OpenedQueue) (filled new : List Filled) (i p f : ℕ) (fields : List ℕ) → AreFew qs → i < 2 ^ 32 → p < 64
    → AllByRecursion (λ field. field < length (get_or qs i no_queue).fields) (f ∷ fields)
    → put_in filled i (put_in (get_or filled i []) p (f ∷ fields)) ≡ new
    → with_filled qs filled (decimal i ∷ decimal p ∷ map decimal (f ∷ fields)) ≡ Ok new
unfolding with_filled
filled_made qs filled new i p f fields few small further all same = rw (
  first_word_again i (decimal p ∷ map decimal (f ∷ fields)) small,
  first_word_again p (map decimal (f ∷ fields)) (omega arith),
  numbers_again (length (get_or qs i no_queue).fields) f fields (few.fields i) all,
  lt-leb 64 p further,
) (ap Ok same)

-- the slots of a queue that has no more than 16 fields
slot_told : (d : DraftValue) (before : List Filled) (i : ℕ) (slots : Filled) (k f : ℕ) (fields : List ℕ) (s : Stage) → AreFew d.queues
    → length before ≤ i → i < 2 ^ 32 → length slots + k < 64 → AllByRecursion (λ field. field < length (get_or d.queues i no_queue).fields) (f ∷ fields)
    → IsDescribed s → LeadsTo (IsHeld IsDescribed (with_all_filled d (joined before i (slots ++ replicate k [] ++ (f ∷ fields) ∷ []))))
    (with_all_filled d (joined before i slots) s) (slot_line i (length slots + k) (f ∷ fields))
unfolding keyword_named stage_after
slot_told d before i slots k f fields s few place small further all is =
    let new = with_all_filled d (joined before i (slots ++ replicate k [] ++ (f ∷ fields) ∷ [])) in
    line_told (IsHeld IsDescribed new) (with_all_filled d (joined before i slots) s) (new s) (codes "filled")
    (decimal i ∷ decimal (length slots + k) ∷ map decimal (f ∷ fields)) keyword.Filled stage.Known refl (rw is refl)
    (rw (filled_made d.queues (joined before i slots) (joined before i (slots ++ replicate k [] ++ (f ∷ fields) ∷ [])) i (length slots + k) f fields few
    small further all (slot_placed before i k slots (f ∷ fields) place)) refl)
    (at_stage IsDescribed new stage.Known refl)

slots_told : (d : DraftValue) (before : List Filled) (i : ℕ) (slots : Filled) (s : Stage) → AreFew d.queues → length before ≤ i → i < 2 ^ 32
    → FitsSlots (length (get_or d.queues i no_queue).fields) slots → IsDescribed s
    → LeadsTo (IsHeld IsDescribed (with_all_filled d (joined before i slots))) (with_all_filled d before s) (slot_lines i 0 slots)
slots_told d before i slots s few place small fits is =
    each_full (λ p. AllByRecursion (λ field. field < length (get_or d.queues i no_queue).fields)) IsDescribed (λ xs. with_all_filled d (joined before i xs))
    (slot_line i) slots (λ p. refl)
    (λ full k f fields t further all is_t. slot_told d before i full k f fields t few place small (omega (arith, fits.few)) all is_t) s is fits.full
    (all_at (AllByRecursion (λ field. field < length (get_or d.queues i no_queue).fields)) 0 slots fits.fields)

pub filled_told : (d : DraftValue) (filled : List Filled) (s : Stage) → AreFew d.queues → length filled ≤ 16 → EndsFull filled
    → FitsFilled d.queues 0 filled → IsDescribed s
    → LeadsTo (IsHeld IsDescribed (with_all_filled d filled)) (with_all_filled d [] s) (filled_lines 0 filled)
filled_told d filled s few small full all is =
    each_full (λ i slots. FitsSlots (length (get_or d.queues i no_queue).fields) slots) IsDescribed (with_all_filled d) (λ i slots. slot_lines i 0 slots) filled
    (λ i. refl) next s is full all
  where
    next : (before : List Filled) (k : ℕ) (x : List ℕ) (xs : Filled) (t : Stage) → length before + k < length filled
        → FitsSlots (length (get_or d.queues (length before + k) no_queue).fields) (x ∷ xs) → IsDescribed t
        → LeadsTo (IsHeld IsDescribed (with_all_filled d (before ++ replicate k [] ++ (x ∷ xs) ∷ []))) (with_all_filled d before t)
        (slot_lines (length before + k) 0 (x ∷ xs))
    next before k x xs t further fits is_t =
        subst (λ ys. LeadsTo (IsHeld IsDescribed (with_all_filled d ys)) (with_all_filled d before t) (slot_lines (length before + k) 0 (x ∷ xs)))
        (placed_after before k (x ∷ xs)) (slots_told d before (length before + k) (x ∷ xs) t few (omega arith) (omega arith) fits is_t)
