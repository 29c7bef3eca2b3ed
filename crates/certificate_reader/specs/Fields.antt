-- The fields of a queue's records, and which of them are right ahead of a count, as lines say them.
use Rattle.std.specs.Prelude.{ℕ, suc, ◌-◌, Bool, false, nat_lt, nat_le, if◌then◌else◌, List, [], ◌∷◌, ◌++◌, length, replicate, reverse, set, get_or}
use Rattle.std.specs.Prelude.{Result, Ok, Err}
use Rattle.std.specs.List.{list_all}
use Rattle.texts.specs.Results.{◌>>=◌}
use Rattle.queue_certificates.specs.RecordFields.{Field}
use Rattle.queue_certificates.specs.Certificates.{OpenedQueue, no_queue}
use Rattle.queue_certificates.specs.Filled.{Filled}
use Rattle.certificate_reader.specs.declared.faults.CertificateFault.{CertificateFault}
use Rattle.certificate_reader.specs.declared.faults.CertificateFault.TheVariants.{BadLine, Misplaced}
use Rattle.certificate_reader.specs.declared.limits.TheConstants.{MAX_FIELDS, MAX_POSITIONS}
use Rattle.certificate_reader.specs.Numbers.{first_word_in, first_count_in, ended}
use Rattle.certificate_reader.specs.Lists.{one_more, counts_in}

-- ---- a field

-- where it begins, and its bytes; the least of its numbers, how far they lie apart, and how many there are after the least
unfoldable pub field_of : List (List ℕ) → Result Field CertificateFault
field_of words = do
  a ← first_word_in words
  b ← first_word_in a.1
  c ← first_count_in b.1
  d ← first_count_in c.1
  e ← first_count_in d.1
  over ← ended e.1
  Ok (record { at = a.0; width = b.0; low = c.0; step = d.0; count = e.0 })

-- of queues, the last one first, the last one has one field more
abbrev pub with_last_field : List OpenedQueue → List (List ℕ) → Result (List OpenedQueue) CertificateFault
with_last_field [] words = Err Misplaced
with_last_field (queue ∷ before) words = do
  field ← field_of words
  fields ← one_more MAX_FIELDS queue.fields field
  Ok (reverse before ++ record queue { fields = fields } ∷ [])

unfoldable pub with_field : List OpenedQueue → List (List ℕ) → Result (List OpenedQueue) CertificateFault
with_field queues words = with_last_field (reverse queues) words

-- ---- which fields are right

-- one field at least, and each of them one of the k that a queue has
abbrev pub are_fields : (k : ℕ) → List ℕ → Bool
are_fields k [] = false
are_fields k (field ∷ fields) = list_all (λ number. nat_lt number k) (field ∷ fields)

unfoldable pub fields_listed_in : (k : ℕ) → List (List ℕ) → Result (List ℕ) CertificateFault
fields_listed_in k words = do
  fields ← counts_in words
  if are_fields k fields then Ok fields else Err BadLine

-- lists, and empty ones after them, so that place i is there
abbrev pub reaching : {A : Type 0} → (i : ℕ) → List (List A) → List (List A)
reaching i xs = xs ++ replicate (suc i - length xs) []

-- lists with this one at place i, and no longer than that needs
abbrev pub put_in : {A : Type 0} → List (List A) → (i : ℕ) → List A → List (List A)
put_in xs i x = set (reaching i xs) i x

-- of a queue, at a position that is so much further than the count
unfoldable pub with_filled : List OpenedQueue → List Filled → List (List ℕ) → Result (List Filled) CertificateFault
with_filled queues filled words = do
  queue ← first_word_in words
  further ← first_word_in queue.1
  fields ← fields_listed_in (length (get_or queues queue.0 no_queue).fields) further.1
  if nat_le MAX_POSITIONS further.0 then Err BadLine else Ok (put_in filled queue.0 (put_in (get_or filled queue.0 []) further.0 fields))
