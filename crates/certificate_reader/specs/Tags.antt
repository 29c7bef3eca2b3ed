-- The queues with tags of a certificate, as lines say them.
use Rattle.std.specs.Prelude.{ℕ, nat_lt, List, [], ◌∷◌, Option, Some, None, Result, Ok, Err, if◌then◌else◌, codes}
use Rattle.std.specs.Str.{bytes_eq}
use Rattle.texts.specs.Results.{◌>>=◌}
use Rattle.queue_layouts.specs.declared.tagged.Codec.{Codec}
use Rattle.queue_layouts.specs.declared.tagged.Codec.TheVariants as codec
use Rattle.queue_layouts.specs.declared.tagged.OpenedTagged.{OpenedTagged}
use Rattle.certificate_reader.specs.declared.faults.CertificateFault.{CertificateFault}
use Rattle.certificate_reader.specs.declared.faults.CertificateFault.TheVariants.{BadLine, TooMany}
use Rattle.certificate_reader.specs.declared.limits.TheConstants.{MAX_TAGGED, MAX_SLOTS}
use Rattle.certificate_reader.specs.Faults.{or_bad_line}
use Rattle.certificate_reader.specs.Numbers.{first_word_in, first_count_in, ended, five_at}
use Rattle.certificate_reader.specs.Lists.{one_more}

-- how a tag tells, where one word says it
abbrev pub codec_of : List ℕ → Option Codec
codec_of word =
    if bytes_eq word (codes "zero") then Some codec.Zero else
    (if bytes_eq word (codes "number") then Some codec.Number else None)

-- bits of it: a mask, and what is under it in a free slot and in a full one; and the words after these
unfoldable pub bits_in : List (List ℕ) → Result (Codec × List (List ℕ)) CertificateFault
bits_in words = do
  mask ← first_word_in words
  free ← first_word_in mask.1
  full ← first_word_in free.1
  Ok (codec.Bit mask.0 free.0 full.0, full.1)

-- phase bits: a mask, what is under it in even rounds, and what in odd ones
unfoldable pub phases_in : List (List ℕ) → Result (Codec × List (List ℕ)) CertificateFault
phases_in words = do
  a ← five_at words
  Ok (codec.Phases a.0.0 a.0.1 a.0.2 a.0.3 a.0.4, a.1)

unfoldable pub codec_by : (word : List ℕ) (others : List (List ℕ)) → Result (Codec × List (List ℕ)) CertificateFault
codec_by word others = if bytes_eq word (codes "bits") then bits_in others else if bytes_eq word (codes "phases") then phases_in others else (do
  codec ← or_bad_line (codec_of word)
  Ok (codec, others))

-- how a tag tells as the first words say it, and the words after these
unfoldable pub first_codec_in : List (List ℕ) → Result (Codec × List (List ℕ)) CertificateFault
first_codec_in [] = Err BadLine
first_codec_in (word ∷ others) = codec_by word others

-- where the elements with the tags begin, and how many bytes one has: the slots', where no more words say it
abbrev pub elements_in : (slots width : ℕ) → List (List ℕ) → Result ((ℕ × ℕ) × List (List ℕ)) CertificateFault
elements_in slots width [] = Ok ((slots, width), [])
elements_in slots width (word ∷ others) = do
  a ← first_word_in (word ∷ others)
  b ← first_word_in a.1
  Ok ((a.0, b.0), b.1)

-- sender, receiver, slots, size, width; where in its element a tag begins, the bytes of that, and how it tells; the position with
-- which the queue opens; and the elements
unfoldable pub tagged_of : List (List ℕ) → Result OpenedTagged CertificateFault
tagged_of words = do
  a ← five_at words
  b ← first_word_in a.1
  c ← first_word_in b.1
  d ← first_codec_in c.1
  e ← first_count_in d.1
  f ← elements_in a.0.2 a.0.4 e.1
  over ← ended f.1
  Ok (record {
    queue = record {
      sender = a.0.0;
      receiver = a.0.1;
      slots = a.0.2;
      size = a.0.3;
      width = a.0.4;
      tags = f.0.0;
      tag_stride = f.0.1;
      tag_offset = b.0;
      tag_width = c.0;
      codec = d.0;
    };
    start = e.0;
  })

abbrev pub few_slots : OpenedTagged → Result OpenedTagged CertificateFault
few_slots opened = if nat_lt MAX_SLOTS opened.queue.size then Err TooMany else Ok opened

unfoldable pub with_tagged : List OpenedTagged → List (List ℕ) → Result (List OpenedTagged) CertificateFault
with_tagged tagged words = do
  opened ← tagged_of words
  queue ← few_slots opened
  one_more MAX_TAGGED tagged queue
