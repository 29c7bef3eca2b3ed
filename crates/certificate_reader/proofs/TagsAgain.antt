-- Queues with tags, as they are written, are read again.
use Rattle.std.proofs.Common.{◌≡◌, ℕ, ◌<◌, ◌≤◌, ◌==◌, Bool, true, false, List, [], ◌∷◌, ◌++◌, length, map, Ok, refl, arith}
use Rattle.std.specs.Prelude.{◌&&◌, if◌then◌else◌, codes}
use Rattle.std.specs.List.{AllByRecursion}
use Rattle.std.specs.Fmt.{decimal}
use Rattle.std.proofs.lemmas.Bool.{le-ltb, lt-leb}
use Rattle.std.proofs.lemmas.Bool.Decides.{Decides-and, Decides-eqb}
use Rattle.queue_layouts.specs.declared.tagged.Codec.{Codec}
use Rattle.queue_layouts.specs.declared.tagged.Codec.TheVariants as codec
use Rattle.queue_layouts.specs.declared.tagged.OpenedTagged.{OpenedTagged}
use Rattle.queue_layouts.specs.declared.tagged.TaggedQueue.{TaggedQueue}
use Rattle.certificate_reader.specs.declared.stages.Keyword.TheVariants as keyword
use Rattle.certificate_reader.specs.declared.stages.Stage.{Stage}
use Rattle.certificate_reader.specs.declared.stages.Stage.TheVariants as stage
use Rattle.certificate_reader.specs.Stages.{keyword_named, stage_after, lists_queues}
use Rattle.certificate_reader.specs.Tags.{bits_in, phases_in, codec_by, first_codec_in, elements_in, tagged_of, with_tagged}
use Rattle.certificate_reader.specs.Drafts.{DraftValue}
use Rattle.certificate_reader.specs.Writing.{codec_words, element_numbers, tagged_line}
use Rattle.certificate_reader.specs.Written.{FitsCodec, FitsTagged}
use Rattle.certificate_reader.proofs.NumbersAgain.{five_again, first_word_again, first_count_again}
use Rattle.certificate_reader.proofs.LinesAgain.{LeadsTo, line_told, IsHeld, at_stage}
use Rattle.certificate_reader.proofs.Turns.{each_line}

-- ---- a line

first_codec_again : (c : Codec) (words : List (List ℕ)) → FitsCodec c → first_codec_in (codec_words c ++ words) ≡ Ok (c, words)
unfolding first_codec_in codec_by bits_in phases_in
first_codec_again codec.Zero words fits = refl
first_codec_again codec.Number words fits = refl
first_codec_again (codec.Bit mask free full) words fits = rw (
  first_word_again mask (decimal free ∷ decimal full ∷ words) fits.0,
  first_word_again free (decimal full ∷ words) fits.1.0,
  first_word_again full words fits.1.1.0,
) refl
first_codec_again (codec.Phases mask free full odd_free odd_full) words fits = rw (five_again mask free full odd_free odd_full words fits) refl

elements_again : (o : OpenedTagged) → FitsTagged o
    → elements_in o.queue.slots o.queue.width (map decimal (element_numbers o.queue)) ≡ Ok ((o.queue.tags, o.queue.tag_stride), [])
elements_again o fits = by ((q.tags == q.slots) && (q.tag_stride == q.width)) refl
  where
    q : TaggedQueue
    q = o.queue

    by : (b : Bool) → (q.tags == q.slots) && (q.tag_stride == q.width) ≡ b
        → elements_in q.slots q.width (map decimal (if b then [] else q.tags ∷ q.tag_stride ∷ [])) ≡ Ok ((q.tags, q.tag_stride), [])
    by true are =
        let both = (Decides-and _ _ (Decides-eqb q.tags q.slots) (Decides-eqb q.tag_stride q.width)).0 are in
        rw (both.0, both.1) refl
    by false others = rw (
      first_word_again q.tags (decimal q.tag_stride ∷ []) fits.tag.0,
      first_word_again q.tag_stride [] fits.tag.1.0,
    ) refl

abbrev words_of : OpenedTagged → List (List ℕ)
words_of o = (tagged_line o).1

tagged_again : (o : OpenedTagged) → FitsTagged o → tagged_of (words_of o) ≡ Ok o
unfolding tagged_of
tagged_again o fits =
    let q = o.queue in
    let elements = map decimal (element_numbers q) in
    let ends = codec_words q.codec ++ decimal o.start ∷ elements in
    rw (
      five_again q.sender q.receiver q.slots q.size q.width (decimal q.tag_offset ∷ decimal q.tag_width ∷ ends) fits.slots,
      first_word_again q.tag_offset (decimal q.tag_width ∷ ends) fits.tag.1.1.0,
      first_word_again q.tag_width ends fits.tag.1.1.1.0,
      first_codec_again q.codec (decimal o.start ∷ elements) fits.codec,
      first_count_again o.start elements fits.start,
      elements_again o fits,
    ) refl

tagged_made : (tagged : List OpenedTagged) (o : OpenedTagged) → length tagged < 16 → FitsTagged o → with_tagged tagged (words_of o) ≡ Ok (tagged ++ o ∷ [])
unfolding with_tagged
tagged_made tagged o few fits = rw (tagged_again o fits, le-ltb 65536 o.queue.size fits.few_slots, lt-leb 16 (length tagged) few) refl

-- ---- all of them

abbrev pub ListsQueues : Stage → Type 0
ListsQueues s = lists_queues s ≡ true

-- a draft whose queues with tags are these
abbrev pub with_all_tagged : DraftValue → List OpenedTagged → Stage → DraftValue
with_all_tagged d tagged s = record d { tagged = tagged; stage = s }

tagged_line_told : (d : DraftValue) (before : List OpenedTagged) (o : OpenedTagged) (s : Stage) → length before < 16 → FitsTagged o → ListsQueues s
    → LeadsTo (IsHeld ListsQueues (with_all_tagged d (before ++ o ∷ []))) (with_all_tagged d before s) (tagged_line o ∷ [])
unfolding keyword_named stage_after
tagged_line_told d before o s few fits lists =
    let new = with_all_tagged d (before ++ o ∷ []) in
    line_told (IsHeld ListsQueues new) (with_all_tagged d before s) (new s) (codes "tagged") (words_of o) keyword.Tagged stage.Tagged refl (rw lists refl)
    (rw (tagged_made before o few fits) refl) (at_stage ListsQueues new stage.Tagged refl)

pub tagged_told : (d : DraftValue) (tagged : List OpenedTagged) (s : Stage) → length tagged ≤ 16 → AllByRecursion FitsTagged tagged → ListsQueues s
    → LeadsTo (IsHeld ListsQueues (with_all_tagged d tagged)) (with_all_tagged d [] s) (map tagged_line tagged)
tagged_told d tagged s few all lists = each_line FitsTagged ListsQueues (with_all_tagged d) tagged_line tagged
    (λ before o t fewer fits is. tagged_line_told d before o t (omega arith) fits is) s lists all
