-- What is shown of the bytes of records, where the certificate is accepted, and that one thing is found of them.
use Rattle.std.proofs.Common.{arith, ◌≡◌, ℕ, zero, suc, ◌+◌, ◌<◌, ◌≤◌, Bool, true, false, List, [], ◌∷◌, ◌++◌, length, Some, None, refl, sym, ap}
use Rattle.std.proofs.Common.{ap₂, ◌∙◌, subst}
use Rattle.std.specs.Prelude.{All, Option, nat_lt, not, ◌&&◌}
use Rattle.std.proofs.lemmas.List.Elements.{All-cons, All-nil}
use Rattle.std.proofs.lemmas.Bool.{and_parts, lt-ltb, ltb-true, not-true}
use Rattle.step_machine.specs.declared.events.Entry.{Entry}
use Rattle.step_machine.specs.Names.{OpeningValue, history_of, WellFormed}
use Rattle.queue_certificates.specs.Certificates.{QueueCertificate, accepts, queue_at, tagged_at}
use Rattle.record_bytes.specs.Naming.{names_byte, offsets_below}
use Rattle.record_bytes.proofs.OffsetLaws.{some-offset}
use Rattle.record_bytes.proofs.RangeLaws.{has-below}
use Rattle.record_bytes.specs.Ranges.{byte_ranges, has_byte}
use Rattle.record_bytes.specs.declared.ranges.ByteRange.{ByteRange}
use Rattle.records_written.specs.{IsFirstAgain, IsFirstUnread, IsFirstUnwritten, IsShownDone, IsShownOnce, IsShownRead, IsShownWritten, IsListed}
use Rattle.records_written.specs.{count_after, published_after, slot_in, taken_after, IsFresh, IsRead, IsReadBy, IsRecordByte, IsWritten, OwnsReads}
use Rattle.records_written.specs.declared.finding.Missing.{Missing}
use Rattle.records_written.specs.declared.parties.QueueNumber.{QueueNumber}
use Rattle.certifying.specs.Kept.{DoesAs, DoesEach, DoesRecords, IsDone, LineMeans, RecordsMean}
use Rattle.certifying.specs.Lines.{AnswerLine, records_from, the_records}
use Rattle.certifying.specs.Questions.{Questions}
use Rattle.certifying.specs.Queues.{is_tag_byte, is_tag_byte_by, number_by, number_in, queue_count, slots_at, slots_by}
use Rattle.certifying.specs.Records.{AreFound, AreFoundFrom, IsFirstNot, IsFound, IsFoundFor, IsShownTo, are_once, are_read, are_written, asked_ranges}
use Rattle.certifying.specs.Records.{doer, is_rest, is_shown, once_asked}
use Rattle.certifying.specs.declared.records.Deed.{Deed}
use Rattle.certifying.specs.declared.records.Deed.TheVariants.{Writes, Reads, ReadsOnce}
use Rattle.certifying.specs.declared.records.QueueRecords.{QueueRecords}
use Rattle.certifying.specs.declared.records.Records.{Records}
use Rattle.certifying.specs.declared.records.Records.TheVariants.{Unasked, NoBytes, Shown, NotShown}
use Rattle.certifying.proofs.Numbers.{of_either}

-- what `records_written` promises where a certificate is accepted
pub record RecordLaws : Type 0 where
  pub written : (B M : ℕ) (o : OpeningValue) (c : QueueCertificate) → accepts o c ≡ true → (w : QueueNumber) → IsListed c w → (mask : ℕ → Bool)
      → IsShownWritten o c w mask → (es : List Entry) (e : Entry) → WellFormed B M (history_of o (es ++ e ∷ [])) → (k : ℕ)
      → published_after c w es ≤ k → k < published_after c w (es ++ e ∷ []) → (b : ℕ) → mask b ≡ true → IsWritten M o c w es k (slot_in c w k + b)
  pub read : (B M : ℕ) (o : OpeningValue) (c : QueueCertificate) → accepts o c ≡ true → (w : QueueNumber) → IsListed c w → (mask : ℕ → Bool)
      → IsShownRead o c w mask → (es : List Entry) (e : Entry) → WellFormed B M (history_of o (es ++ e ∷ [])) → (k : ℕ)
      → taken_after c w es ≤ k → k < taken_after c w (es ++ e ∷ []) → (b : ℕ) → mask b ≡ true → IsRead M o c w es k (slot_in c w k + b)
  pub once : (B M : ℕ) (o : OpeningValue) (c : QueueCertificate) → accepts o c ≡ true → (w : QueueNumber) → IsListed c w → (mask : ℕ → Bool)
      → IsShownOnce o c w mask → OwnsReads o c w → ((b : ℕ) → mask b ≡ true → IsRecordByte c w b) → (es : List Entry) (e : Entry)
      → WellFormed B M (history_of o (es ++ e ∷ [])) → (k b : ℕ) → mask b ≡ true → IsReadBy M o c w es e k (slot_in c w k + b)
      → IsFresh M o c w mask es k b

-- and of the first byte that isn't shown to be written, or to be read, or at most once
pub record FirstLaws : Type 0 where
  pub either_written : (o : OpeningValue) (c : QueueCertificate) (w : QueueNumber) (mask : ℕ → Bool) (u : Missing) → IsShownWritten o c w mask
      → IsFirstUnwritten o c w mask u → ⊥
  pub one_written : (o : OpeningValue) (c : QueueCertificate) (w : QueueNumber) (mask : ℕ → Bool) (u v : Missing) → IsFirstUnwritten o c w mask u
      → IsFirstUnwritten o c w mask v → (u.state ≡ v.state) × (u.byte ≡ v.byte)
  pub either_read : (o : OpeningValue) (c : QueueCertificate) (w : QueueNumber) (mask : ℕ → Bool) (u : Missing) → IsShownRead o c w mask
      → IsFirstUnread o c w mask u → ⊥
  pub one_read : (o : OpeningValue) (c : QueueCertificate) (w : QueueNumber) (mask : ℕ → Bool) (u v : Missing) → IsFirstUnread o c w mask u
      → IsFirstUnread o c w mask v → (u.state ≡ v.state) × (u.byte ≡ v.byte)
  pub either_once : (o : OpeningValue) (c : QueueCertificate) (w : QueueNumber) (mask : ℕ → Bool) (u : Missing) → IsShownOnce o c w mask
      → IsFirstAgain o c w mask u → ⊥
  pub one_once : (o : OpeningValue) (c : QueueCertificate) (w : QueueNumber) (mask : ℕ → Bool) (u v : Missing) → IsFirstAgain o c w mask u
      → IsFirstAgain o c w mask v → (u.state ≡ v.state) × (u.byte ≡ v.byte)

-- ---- one thing is found

module _ (laws : FirstLaws) (o : OpeningValue) (c : QueueCertificate) where
  either : (deed : Deed) (w : QueueNumber) (mask : ℕ → Bool) (u : Missing) → IsShownTo o c deed w mask → IsFirstNot o c deed w mask u → ⊥
  either Writes w mask u shown first = laws.either_written o c w mask u shown first
  either Reads w mask u shown first = laws.either_read o c w mask u shown first
  either ReadsOnce w mask u shown first = laws.either_once o c w mask u shown first

  one : (deed : Deed) (w : QueueNumber) (mask : ℕ → Bool) (u v : Missing) → IsFirstNot o c deed w mask u → IsFirstNot o c deed w mask v
      → (u.state ≡ v.state) × (u.byte ≡ v.byte)
  one Writes w mask u v first also = laws.one_written o c w mask u v first also
  one Reads w mask u v first also = laws.one_read o c w mask u v first also
  one ReadsOnce w mask u v first also = laws.one_once o c w mask u v first also

  module _ (deed : Deed) where
    one-found : (i : ℕ) (ranges : List ByteRange) (r s : Records) → IsFound o c deed i ranges r → IsFound o c deed i ranges s → r ≡ s
    one-found i ranges Unasked s is also = absurd is
    one-found i ranges NoBytes Unasked is also = absurd also
    one-found i ranges NoBytes NoBytes is also = refl
    one-found i ranges NoBytes Shown is also = absurd (also.0 is)
    one-found i ranges NoBytes (NotShown v) is also = absurd (also.0 is)
    one-found i ranges Shown Unasked is also = absurd also
    one-found i ranges Shown NoBytes is also = absurd (is.0 also)
    one-found i ranges Shown Shown is also = refl
    one-found i ranges Shown (NotShown v) is also = absurd (either deed (number_in c i) (is_rest c i ranges) v is.1 also.1)
    one-found i ranges (NotShown u) Unasked is also = absurd also
    one-found i ranges (NotShown u) NoBytes is also = absurd (is.0 also)
    one-found i ranges (NotShown u) Shown is also = absurd (either deed (number_in c i) (is_rest c i ranges) u also.1 is.1)
    one-found i ranges (NotShown u) (NotShown v) is also =
        let same = one deed (number_in c i) (is_rest c i ranges) u v is.1 also.1 in
        ap₂ (λ (n b : ℕ). NotShown (record { state = n; byte = b })) same.0 same.1

    one-for : (asked : Option (List ℕ)) (i : ℕ) (r s : Records) → IsFoundFor o c deed asked i r → IsFoundFor o c deed asked i s → r ≡ s
    one-for None i r s is also = is ∙ sym also
    one-for (Some bytes) i r s is also = one-found i (asked_ranges c bytes i) r s is also

  one-from : (asked : Questions) (owned : Bool) (i : ℕ) (found others : List QueueRecords) → AreFoundFrom o c asked owned i found
      → AreFoundFrom o c asked owned i others → length found ≡ length others → found ≡ others
  one-from asked owned i [] [] are also same = refl
  one-from asked owned i [] (s ∷ others) are also same = absurd (omega (arith, same))
  one-from asked owned i (r ∷ found) [] are also same = absurd (omega (arith, same))
  one-from asked owned i (r ∷ found) (s ∷ others) are also same =
      let first : r ≡ record s { once = r.once } = ap₂ (λ (x y : Records). record { written = x; read = y; once = r.once })
      (one-for Writes asked.written i r.written s.written are.0 also.0) (one-for Reads asked.read i r.read s.read are.1 also.1) in
      let its : r ≡ s = first ∙ ap (λ (x : Records). record s { once = x })
      (one-for ReadsOnce (once_asked asked owned) i r.once s.once are.2 also.2) in
      ap₂ (λ (x : QueueRecords) (xs : List QueueRecords). x ∷ xs) its (one-from asked owned (i + 1) found others are.3 also.3 (omega (arith, same)))

  pub one-in : (asked : Questions) (owned : Bool) (found others : List QueueRecords) → AreFound o c asked owned found → AreFound o c asked owned others
      → found ≡ others
  one-in asked owned found others are also = one-from asked owned 0 found others are.1 also.1 (are.0 ∙ sym also.0)

-- ---- what is found of each queue

module _ (o : OpeningValue) (c : QueueCertificate) where
  -- what is found, with one more
  pub found-more : (asked : Questions) (owned : Bool) (first : ℕ) (found : List QueueRecords) (its : QueueRecords) → AreFoundFrom o c asked owned first found
      → AreFoundFrom o c asked owned (first + length found) (its ∷ []) → AreFoundFrom o c asked owned first (found ++ its ∷ [])
  found-more asked owned first [] its are more =
      let same : first + 0 ≡ first = omega arith in subst (λ (i : ℕ). AreFoundFrom o c asked owned i (its ∷ [])) same more
  found-more asked owned first (other ∷ found) its are more =
      let same : first + length (other ∷ found) ≡ first + 1 + length found = omega arith in (
        are.0,
        are.1,
        are.2,
        found-more asked owned (first + 1) found its are.3 (subst (λ (i : ℕ). AreFoundFrom o c asked owned i (its ∷ [])) same more),
      )

  -- ---- what that means in every run

  module _ (laws : RecordLaws) (accepted : accepts o c ≡ true) where
    listed : (i : ℕ) → i < queue_count c → IsListed c (number_in c i)
    listed = of_either c (λ (i : ℕ) (t : Option ℕ). IsListed c (number_by i t)) (λ i less. less) (λ t less. less)

    asked-of : (bytes : List ℕ) (i b : ℕ) → b < (slots_at c i).width → names_byte bytes b ≡ true → is_tag_byte c i b ≡ false
        → is_rest c i (asked_ranges c bytes i) b ≡ true
    asked-of bytes i b within named free =
        let has = has-below (names_byte bytes) (slots_at c i).width b in
        let under : nat_lt b (slots_at c i).width ≡ true = lt-ltb _ _ within in
        rw (has, under, named, free) refl

    done : (writes : Bool) (B M : ℕ) (w : QueueNumber) → IsListed c w → (mask : ℕ → Bool) → IsShownDone o c w (doer writes) mask → (es : List Entry)
        (e : Entry) → WellFormed B M (history_of o (es ++ e ∷ [])) → (k : ℕ) → count_after c w (doer writes) es ≤ k
        → k < count_after c w (doer writes) (es ++ e ∷ []) → (b : ℕ) → mask b ≡ true → IsDone writes M o c w es k (slot_in c w k + b)
    done true B M w less mask shown es e formed k low high b asks = laws.written B M o c accepted w less mask shown es e formed k low high b asks
    done false B M w less mask shown es e formed k low high b asks = laws.read B M o c accepted w less mask shown es e formed k low high b asks

    does-each : (writes : Bool) (bytes : List ℕ) (i : ℕ) → i < queue_count c
        → IsShownDone o c (number_in c i) (doer writes) (is_rest c i (asked_ranges c bytes i)) → DoesEach writes bytes o c i
    does-each writes bytes i less shown B M es e formed k low high b within named free = done writes B M (number_in c i) (listed i less)
        (is_rest c i (asked_ranges c bytes i)) shown es e formed k low high b (asked-of bytes i b within named free)

    -- what is asked about is of records, and no tag's
    abbrev OfRecord : (bytes : List ℕ) → (b i : ℕ) → (t : Option ℕ) → Type 0
    OfRecord bytes b i t = has_byte (byte_ranges (offsets_below (names_byte bytes) (slots_by c i t).width)) b && not (is_tag_byte_by c t b) ≡ true
        → IsRecordByte c (number_by i t) b

    below : (bytes : List ℕ) (n b : ℕ) → has_byte (byte_ranges (offsets_below (names_byte bytes) n)) b ≡ true → b < n
    below bytes n b has = ltb-true b n (and_parts _ _ (sym (has-below (names_byte bytes) n b) ∙ has)).0

    of-record : (bytes : List ℕ) (i : ℕ) → i < queue_count c → (b : ℕ) → is_rest c i (asked_ranges c bytes i) b ≡ true → IsRecordByte c (number_in c i) b
    of-record bytes i less b rest = of_either c (OfRecord bytes b) (λ i inside rest. below bytes (queue_at c i).width b (and_parts _ _ rest).0)
        (λ t inside rest. (below bytes (tagged_at c t).width b (and_parts _ _ rest).0, not-true _ (and_parts _ _ rest).1)) i less rest

    -- what has to be known of loads
    abbrev Owns : Deed → (i : ℕ) → Type 0
    Owns ReadsOnce i = OwnsReads o c (number_in c i)
    Owns other i = Unit {0}

    does-as : (deed : Deed) (bytes : List ℕ) (i : ℕ) → i < queue_count c → Owns deed i
        → IsShownTo o c deed (number_in c i) (is_rest c i (asked_ranges c bytes i)) → DoesAs deed bytes o c i
    does-as Writes bytes i less owns shown = does-each true bytes i less shown
    does-as Reads bytes i less owns shown = does-each false bytes i less shown
    does-as ReadsOnce bytes i less owns shown = λ B M es e formed k b asks by. laws.once B M o c accepted (number_in c i) (listed i less)
        (is_rest c i (asked_ranges c bytes i)) shown owns (of-record bytes i less) es e formed k b asks by

    -- where it is shown of all that is asked
    shown-does : (deed : Deed) (asked : Option (List ℕ)) (i : ℕ) → i < queue_count c → Owns deed i → (r : Records) → IsFoundFor o c deed asked i r
        → is_shown r ≡ true → DoesRecords deed asked o c i
    shown-does deed None i less owns r is shown = tt
    shown-does deed (Some bytes) i less owns Unasked is shown = absurd is
    shown-does deed (Some bytes) i less owns NoBytes is shown = absurd (cc)
    shown-does deed (Some bytes) i less owns Shown is shown =
        (some-offset (names_byte bytes) (slots_at c i).width (λ none. is.0 (ap byte_ranges none)), does-as deed bytes i less owns is.1)
    shown-does deed (Some bytes) i less owns (NotShown missing) is shown = absurd (cc)

    found-means : (deed : Deed) (asked : Option (List ℕ)) (i : ℕ) → i < queue_count c → Owns deed i → (r : Records) → IsFoundFor o c deed asked i r
        → RecordsMean deed asked o c i r
    found-means deed asked i less owns Unasked is = tt
    found-means deed asked i less owns NoBytes is = tt
    found-means deed asked i less owns Shown is = shown-does deed asked i less owns Shown is refl
    found-means deed asked i less owns (NotShown missing) is = tt

    once-means : (asked : Questions) (owned : Bool) (i : ℕ) → i < queue_count c → (owned ≡ true → OwnsReads o c (number_in c i)) → (r : Records)
        → IsFoundFor o c ReadsOnce (once_asked asked owned) i r → RecordsMean ReadsOnce asked.once o c i r
    once-means asked true i less owns r is = found-means ReadsOnce asked.once i less (owns refl) r is
    once-means asked false i less owns r is = subst (RecordsMean ReadsOnce asked.once o c i) (sym is) tt

    module _ (M : ℕ) (asked : Questions) (owned : Bool) (owns : owned ≡ true → (i : ℕ) → i < queue_count c → OwnsReads o c (number_in c i)) where
      means-from : (i : ℕ) (found : List QueueRecords) → i + length found ≡ queue_count c → AreFoundFrom o c asked owned i found
          → All (LineMeans M asked o c) (records_from asked i found)
      means-from i [] all are = All-nil (LineMeans M asked o c)
      means-from i (its ∷ found) all are =
          let less : i < queue_count c = omega (arith, all) in
          let once : AnswerLine = the_records ReadsOnce i asked.once its.once in
          let read : AnswerLine = the_records Reads i asked.read its.read in
          let rest : List AnswerLine = records_from asked (i + 1) found in
          All-cons (LineMeans M asked o c) (the_records Writes i asked.written its.written) (read ∷ once ∷ rest)
          (found-means Writes asked.written i less tt its.written are.0)
          (All-cons (LineMeans M asked o c) read (once ∷ rest) (found-means Reads asked.read i less tt its.read are.1)
          (All-cons (LineMeans M asked o c) once rest (once-means asked owned i less (λ own. owns own i less) its.once are.2)
          (means-from (i + 1) found (omega (arith, all)) are.3)))

      pub records-mean : (found : List QueueRecords) → AreFound o c asked owned found → All (LineMeans M asked o c) (records_from asked 0 found)
      records-mean found are = means-from 0 found (omega (arith, are.0)) are.1

    module _ (asked : Questions) (owns : (i : ℕ) → i < queue_count c → OwnsReads o c (number_in c i)) where
      abbrev Does : (i : ℕ) → Type 0
      Does i = DoesRecords Writes asked.written o c i × DoesRecords Reads asked.read o c i × DoesRecords ReadsOnce asked.once o c i

      does-from : (first : ℕ) (found : List QueueRecords) → first + length found ≡ queue_count c → AreFoundFrom o c asked true first found
          → are_written found ≡ true → are_read found ≡ true → are_once found ≡ true → (i : ℕ) → i < length found → Does (first + i)
      does-from first [] all are written read once i less = absurd (omega (arith, less))
      does-from first (its ∷ found) all are written read once zero less =
          let within : first < queue_count c = omega (arith, all) in
          let here : first ≡ first + 0 = omega arith in subst Does here (
            shown-does Writes asked.written first within tt its.written are.0 (and_parts _ _ written).0,
            shown-does Reads asked.read first within tt its.read are.1 (and_parts _ _ read).0,
            shown-does ReadsOnce asked.once first within (owns first within) its.once are.2 (and_parts _ _ once).0,
          )
      does-from first (its ∷ found) all are written read once (suc i) less =
          let there : first + 1 + i ≡ first + suc i = omega arith in subst Does there
          (does-from (first + 1) found (omega (arith, all)) are.3 (and_parts _ _ written).1 (and_parts _ _ read).1 (and_parts _ _ once).1 i
          (omega (arith, less)))

      pub keeps-records : (found : List QueueRecords) → AreFound o c asked true found → are_written found ≡ true → are_read found ≡ true
          → are_once found ≡ true → (i : ℕ) → i < queue_count c → Does i
      keeps-records found are written read once i less =
          let none : 0 + i ≡ i = omega arith in
          subst Does none (does-from 0 found (omega (arith, are.0)) are.1 written read once i (omega (arith, less, are.0)))
