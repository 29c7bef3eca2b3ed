-- Whether the senders of queues write bytes of their records, and the receivers read them, once, as lines state it.
use Rattle.std.specs.Prelude.{ℕ, ◌≡◌, ◌+◌, ◌&&◌, not, Bool, true, false, List, [], ◌∷◌, ◌++◌, length, codes, Option, Some, None}
use Rattle.std.specs.Fmt.{decimal}
use Rattle.std.specs.List.{list_all}
use Rattle.step_machine.specs.History.{OpeningValue}
use Rattle.queue_parties.specs.Parties.{Party, the_sender, the_receiver}
use Rattle.queue_certificates.specs.Certificates.{QueueCertificate}
use Rattle.record_bytes.specs.declared.ranges.ByteRange.{ByteRange}
use Rattle.record_bytes.specs.Naming.{names_byte, offsets_below}
use Rattle.record_bytes.specs.Ranges.{byte_ranges, has_byte, ranges_without}
use Rattle.records_written.specs.declared.finding.Missing.{Missing}
use Rattle.records_written.specs.Marks.{IsFirstAgain, IsFirstUnread, IsFirstUnwritten, IsShownOnce, IsShownRead, IsShownWritten}
use Rattle.records_written.specs.declared.parties.QueueNumber.{QueueNumber}
use Rattle.engine_support.specs.OpeningTexts.{numbered}
use Rattle.certifying.specs.Descriptions.{bytes_text, is_one_byte, queue_front}
use Rattle.certifying.specs.Questions.{Questions}
use Rattle.certifying.specs.Queues.{is_tag_byte, number_in, queue_count, slots_at, tag_range}
use Rattle.certifying.specs.Unread.{pc_place}
use Rattle.certifying.specs.declared.records.Deed.{Deed}
use Rattle.certifying.specs.declared.records.Deed.TheVariants.{Writes, Reads, ReadsOnce}
use Rattle.certifying.specs.declared.records.Records.{Records}
use Rattle.certifying.specs.declared.records.Records.TheVariants.{Unasked, NoBytes, Shown, NotShown}
use Rattle.certifying.specs.declared.records.QueueRecords.{QueueRecords}

-- the bytes that a text asks of the records of queue i, by their offsets
abbrev pub asked_bytes : QueueCertificate → (bytes : List ℕ) → (i : ℕ) → List ℕ
asked_bytes c bytes i = offsets_below (names_byte bytes) (slots_at c i).width

abbrev pub asked_ranges : QueueCertificate → (bytes : List ℕ) → (i : ℕ) → List ByteRange
asked_ranges c bytes i = byte_ranges (asked_bytes c bytes i)

-- of these ranges, those beside a tag, as bytes and as ranges: what publishes a record writes its tag, and by it the receiver learns of the record
abbrev pub is_rest : QueueCertificate → (i : ℕ) → List ByteRange → (b : ℕ) → Bool
is_rest c i ranges b = has_byte ranges b && not (is_tag_byte c i b)

abbrev pub rest_ranges : QueueCertificate → (i : ℕ) → List ByteRange → List ByteRange
rest_ranges c i ranges = ranges_without ranges (tag_range c i)

-- ---- what is found

abbrev pub doer : (sends : Bool) → Party
doer true = the_sender
doer false = the_receiver

abbrev pub is_senders : Deed → Bool
is_senders Writes = true
is_senders Reads = false
is_senders ReadsOnce = false

-- the bytes that are to be read at most once, where all loads of slots are shown to be of owned ones, or of tags: else it isn't asked
abbrev pub once_asked : Questions → (owned : Bool) → Option (List ℕ)
once_asked asked true = asked.once
once_asked asked false = None

module _ (o : OpeningValue) (c : QueueCertificate) where
  -- it is shown of each byte of the mask; or this is the first byte, at a state, of which it isn't
  abbrev pub IsShownTo : Deed → QueueNumber → (mask : ℕ → Bool) → Type 0
  IsShownTo Writes w mask = IsShownWritten o c w mask
  IsShownTo Reads w mask = IsShownRead o c w mask
  IsShownTo ReadsOnce w mask = IsShownOnce o c w mask

  abbrev pub IsFirstNot : Deed → QueueNumber → (mask : ℕ → Bool) → Missing → Type 0
  IsFirstNot Writes w mask u = IsFirstUnwritten o c w mask u
  IsFirstNot Reads w mask u = IsFirstUnread o c w mask u
  IsFirstNot ReadsOnce w mask u = IsFirstAgain o c w mask u

  abbrev pub IsFound : Deed → (i : ℕ) → (ranges : List ByteRange) → Records → Type 0
  IsFound deed i ranges Unasked = ⊥
  IsFound deed i ranges NoBytes = ranges ≡ []
  IsFound deed i ranges Shown = (ranges ≡ [] → ⊥) × IsShownTo deed (number_in c i) (is_rest c i ranges)
  IsFound deed i ranges (NotShown missing) = (ranges ≡ [] → ⊥) × IsFirstNot deed (number_in c i) (is_rest c i ranges) missing

  -- of the bytes of a text, if they are asked about
  abbrev pub IsFoundFor : Deed → (asked : Option (List ℕ)) → (i : ℕ) → Records → Type 0
  IsFoundFor deed None i records = records ≡ Unasked
  IsFoundFor deed (Some bytes) i records = IsFound deed i (asked_ranges c bytes i) records

  -- from queue i on, one queue for each of these
  abbrev pub AreFoundFrom : Questions → (owned : Bool) → (i : ℕ) → List QueueRecords → Type 0
  AreFoundFrom asked owned i [] = Unit {0}
  AreFoundFrom asked owned i (its ∷ more) = IsFoundFor Writes asked.written i its.written × IsFoundFor Reads asked.read i its.read
      × IsFoundFor ReadsOnce (once_asked asked owned) i its.once × AreFoundFrom asked owned (i + 1) more

  -- of each queue
  abbrev pub AreFound : Questions → (owned : Bool) → List QueueRecords → Type 0
  AreFound asked owned found = (length found ≡ queue_count c) × AreFoundFrom asked owned 0 found

-- what is asked of them is shown
abbrev pub is_shown : Records → Bool
is_shown Unasked = true
is_shown NoBytes = false
is_shown Shown = true
is_shown (NotShown missing) = false

-- of each queue
abbrev pub are_written : List QueueRecords → Bool
are_written found = list_all (λ its. is_shown its.written) found

abbrev pub are_read : List QueueRecords → Bool
are_read found = list_all (λ its. is_shown its.read) found

abbrev pub are_once : List QueueRecords → Bool
are_once found = list_all (λ its. is_shown its.once) found

-- ---- lines

abbrev pub of_each : Deed → (one : Bool) → List ℕ
of_each Writes true = codes " of each record is written"
of_each Writes false = codes " of each record are written"
of_each Reads true = codes " of each record is read"
of_each Reads false = codes " of each record are read"
of_each ReadsOnce true = codes " of each record is read at most once, in order"
of_each ReadsOnce false = codes " of each record are read at most once, in order"

abbrev pub done_text : Deed → List ByteRange → List ℕ
done_text deed ranges = bytes_text ranges ++ of_each deed (is_one_byte ranges)

unfoldable pub none_line : (i : ℕ) → List ℕ
none_line i = codes "queue " ++ (decimal i ++ (codes ": its records have none of these bytes" ++ 10 ∷ []))

unfoldable pub tag_line : (i : ℕ) → List ℕ
tag_line i = codes "queue " ++ (decimal i ++ (codes ": its records have these bytes in their tags alone" ++ 10 ∷ []))

unfoldable pub shown_end : Deed → List ℕ
shown_end Writes = codes " after the record before in its slot was published" ++ 10 ∷ []
shown_end Reads = codes " before its slot is handed back" ++ 10 ∷ []
shown_end ReadsOnce = 10 ∷ []

unfoldable pub unshown_front : (i : ℕ) → List ℕ
unshown_front i = codes "queue " ++ decimal i ++ codes ": not shown that "

abbrev pub doing_hart : QueueCertificate → (sends : Bool) → (i : ℕ) → ℕ
doing_hart c true i = (slots_at c i).sender
doing_hart c false i = (slots_at c i).receiver

abbrev pub missing_end : OpeningValue → QueueCertificate → (h : ℕ) → Missing → List ℕ
missing_end o c h missing =
    codes ": byte " ++ decimal missing.byte ++ codes ", hart " ++ decimal h ++ codes ", " ++ pc_place o c h missing.state ++ 10 ∷ []

-- of the rest of these bytes, if there is any
abbrev pub shown_line : Deed → (i : ℕ) → List ByteRange → List ℕ
shown_line deed i [] = tag_line i
shown_line deed i (r ∷ rest) = queue_front i ++ done_text deed (r ∷ rest) ++ shown_end deed

-- of queue i, and of the rest of the bytes that are asked
abbrev pub record_line : OpeningValue → QueueCertificate → Deed → (i : ℕ) → List ByteRange → Records → List ℕ
record_line o c deed i rest Unasked = []
record_line o c deed i rest NoBytes = none_line i
record_line o c deed i rest Shown = shown_line deed i rest
record_line o c deed i rest (NotShown missing) =
    unshown_front i ++ done_text deed rest ++ missing_end o c (doing_hart c (is_senders deed) i) missing

-- if that is asked
abbrev pub asked_line : OpeningValue → QueueCertificate → Deed → (asked : Option (List ℕ)) → (i : ℕ) → Records → List ℕ
asked_line o c deed None i records = []
asked_line o c deed (Some bytes) i records = record_line o c deed i (rest_ranges c i (asked_ranges c bytes i)) records

abbrev pub lines_of_queue : OpeningValue → QueueCertificate → Questions → (i : ℕ) → QueueRecords → List ℕ
lines_of_queue o c asked i its = asked_line o c Writes asked.written i its.written ++ asked_line o c Reads asked.read i its.read
    ++ asked_line o c ReadsOnce asked.once i its.once

-- of each queue
abbrev pub record_lines : OpeningValue → QueueCertificate → Questions → List QueueRecords → List ℕ
record_lines o c asked found = numbered (lines_of_queue o c asked) 0 found
