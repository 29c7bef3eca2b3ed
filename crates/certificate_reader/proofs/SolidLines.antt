-- No word of a line that is written has a blank or a line end.
use Rattle.std.proofs.Common.{ℕ, ◌≡◌, ◌+◌, ◌^◌, ◌<◌, ◌≤◌, ◌==◌, Bool, true, false, List, [], ◌∷◌, ◌++◌, length, map, get_or, Option, Some, None, refl, arith}
use Rattle.std.specs.Prelude.{◌&&◌, if◌then◌else◌, codes}
use Rattle.std.specs.List.{AllByRecursion, flat_map}
use Rattle.std.specs.Fmt.{decimal}
use Rattle.std.proofs.lemmas.List.{map-append}
use Rattle.texts.proofs.{none-append, is_low, Solid, solid_by_test, decimal_solid}
use Rattle.queue_certificates.specs.{KnownValue, any, linear, index_for, signed_for, ends_as, has_bits, Share, Field, OpenedQueue, no_queue, ListedState}
use Rattle.queue_certificates.specs.{HartPart, QueueCertificate}
use Rattle.queue_certificates.specs.declared.goal.Goal.{Goal}
use Rattle.queue_certificates.specs.declared.goal.Goal.TheVariants as goal
use Rattle.queue_certificates.specs.Cases.{Arrow, Cases, leaf, split}
use Rattle.queue_certificates.specs.Filled.{Filled}
use Rattle.queue_layouts.specs.declared.tagged.Codec.{Codec}
use Rattle.queue_layouts.specs.declared.tagged.Codec.TheVariants as codec
use Rattle.queue_layouts.specs.declared.tagged.OpenedTagged.{OpenedTagged}
use Rattle.certificate_reader.specs.CaseTexts.{arrow_lines, case_lines}
use Rattle.certificate_reader.specs.Writing.{LineOfWords, lines_at, form_text, value_line, value_lines, share_line, share_lines, range_text, line_if, slot_line}
use Rattle.certificate_reader.specs.Writing.{slot_lines, filled_lines, known_lines, described_lines, node_line, tree_lines, state_lines, part_lines, numbers_of}
use Rattle.certificate_reader.specs.Writing.{field_numbers, field_line, queue_line, queue_lines, certificate_lines, value_text, codec_words, element_numbers}
use Rattle.certificate_reader.specs.Writing.{own_word_text, tagged_line, goal_line, lacks_line, rank_lines}
use Rattle.certificate_reader.specs.Written.{FitsWord, FitsCount, FitsForm, FitsValue, FitsShare, FitsRange, FitsArrow, FitsCases, FitsFilled, FitsState}
use Rattle.certificate_reader.specs.Written.{FitsGoal, FitsPart, FitsField, FitsQueue, FitsCodec, FitsTagged, FitsOwn, CanBeWritten}
use Rattle.certificate_reader.proofs.FormsAgain.{form_solid, own_word_solid}
use Rattle.certificate_reader.proofs.FieldsAgain.{AreFew, are_few}
use Rattle.certificate_reader.proofs.LinesAgain.{IsSolidLine}

abbrev pub AreSolid : List LineOfWords → Type 0
AreSolid ls = AllByRecursion IsSolidLine ls

all_append : {A : Type 0} (P : A → Type 0) (xs ys : List A) → AllByRecursion P xs → AllByRecursion P ys → AllByRecursion P (xs ++ ys)
all_append P [] ys one other = other
all_append P (x ∷ xs) ys one other = (one.0, all_append P xs ys one.1 other)

all_map : {A B : Type 0} (P : A → Type 0) (Q : B → Type 0) (f : A → B) → ((a : A) → P a → Q (f a)) → (xs : List A) → AllByRecursion P xs
    → AllByRecursion Q (map f xs)
all_map P Q f each [] all = tt
all_map P Q f each (x ∷ xs) all = (each x all.0, all_map P Q f each xs all.1)

all_flat : {A B : Type 0} (P : A → Type 0) (Q : B → Type 0) (f : A → List B) → ((a : A) → P a → AllByRecursion Q (f a)) → (xs : List A)
    → AllByRecursion P xs → AllByRecursion Q (flat_map f xs)
all_flat P Q f each [] all = tt
all_flat P Q f each (x ∷ xs) all = all_append Q (f x) (flat_map f xs) (each x all.0) (all_flat P Q f each xs all.1)

at_solid : {A : Type 0} (P : A → Type 0) (lines : ℕ → A → List LineOfWords) → ((j : ℕ) (x : A) → j < 2 ^ 32 → P x → AreSolid (lines j x))
    → (j : ℕ) (xs : List A) → j + length xs ≤ 2 ^ 32 → AllByRecursion P xs → AreSolid (lines_at lines j xs)
at_solid P lines each j [] few all = tt
at_solid P lines each j (x ∷ xs) few all =
    all_append IsSolidLine (lines j x) (lines_at lines (j + 1) xs) (each j x (omega arith) all.0) (at_solid P lines each (j + 1) xs (omega arith) all.1)

word_solid : (n : ℕ) → n < 2 ^ 32 → Solid (decimal n)
word_solid n small = decimal_solid n (omega arith)

count_solid : (n : ℕ) → n ≤ 2 ^ 32 → Solid (decimal n)
count_solid n small = decimal_solid n (omega arith)

line_solid : (name : List ℕ) (words : List (List ℕ)) → Solid name → AllByRecursion Solid words → IsSolidLine (name, words)
line_solid name words one all = record { name = one; words = all }

if_solid : (name : List ℕ) (words : List (List ℕ)) → Solid name → AllByRecursion Solid words → AreSolid (line_if name words)
if_solid name [] one all = tt
if_solid name (word ∷ words) one all = (line_solid name (word ∷ words) one all, tt)

range_solid : (r : Option ℕ) → FitsRange r → Solid (range_text r)
range_solid None fits = solid_by_test (codes "-") refl
range_solid (Some n) fits = count_solid n fits

marked_solid : (mark i : ℕ) (text : List ℕ) → is_low mark ≡ false → i < 2 ^ 32 → Solid text → Solid (mark ∷ decimal i ++ 58 ∷ text)
marked_solid mark i text high small solid = (omega arith, (high, none-append is_low (decimal i) (58 ∷ text) (word_solid i small).1 (refl, solid.1)))

value_solid : (N n j : ℕ) (name : List ℕ) (v : KnownValue) → n ≤ 2 ^ 32 → N ≤ 2 ^ 32 → j < 2 ^ 32 → Solid name → FitsValue N n v
    → AreSolid (value_line name j (value_text v))
value_solid N n j name any small few place one fits = tt
value_solid N n j name (linear f) small few place one fits =
    (line_solid name (decimal j ∷ form_text f ∷ []) one (word_solid j place, (form_solid n f small fits, tt)), tt)
value_solid N n j name (index_for i f) small few place one fits = (
  line_solid name (decimal j ∷ (64 ∷ decimal i ++ 58 ∷ form_text f) ∷ []) one
      (word_solid j place, (marked_solid 64 i (form_text f) refl (omega (arith, fits.0)) (form_solid n f small fits.1), tt)),
  tt,
)
value_solid N n j name (signed_for i f) small few place one fits = (
  line_solid name (decimal j ∷ (126 ∷ decimal i ++ 58 ∷ form_text f) ∷ []) one
      (word_solid j place, (marked_solid 126 i (form_text f) refl (omega (arith, fits.0)) (form_solid n f small fits.1), tt)),
  tt,
)
value_solid N n j name (ends_as b f) small few place one fits = (
  line_solid name (decimal j ∷ (94 ∷ decimal b ++ 58 ∷ form_text f) ∷ []) one
      (word_solid j place, (marked_solid 94 b (form_text f) refl (omega (arith, fits.0)) (form_solid n f small fits.1), tt)),
  tt,
)
value_solid N n j name (has_bits m b) small few place one fits = (
  line_solid name (decimal j ∷ (38 ∷ decimal m ++ 58 ∷ decimal b) ∷ []) one
      (word_solid j place, (marked_solid 38 m (decimal b) refl fits.0 (word_solid b fits.1), tt)),
  tt,
)

values_solid : (N n : ℕ) (name : List ℕ) (vs : List KnownValue) → n ≤ 2 ^ 32 → N ≤ 2 ^ 32 → length vs ≤ 2 ^ 32 → Solid name
    → AllByRecursion (FitsValue N n) vs → AreSolid (value_lines name 0 vs)
values_solid N n name vs small few place one all = at_solid (FitsValue N n) (λ j v. value_line name j (value_text v))
    (λ j v below fits. value_solid N n j name v small few below one fits) 0 vs (omega arith) all

share_solid : (n j : ℕ) (s : Share) → n ≤ 2 ^ 32 → j < 2 ^ 32 → FitsShare n s → AreSolid (share_line j s ∷ [])
share_solid n j s small place fits = (
  line_solid (codes "share") (decimal j ∷ form_text s.own ∷ form_text s.owned ∷ []) (solid_by_test (codes "share") refl)
      (word_solid j place, (form_solid n s.own small fits.own, (form_solid n s.owned small fits.owned, tt))),
  tt,
)

arrows_solid : (n : ℕ) (arrows : List Arrow) → n + 1 ≤ 2 ^ 32 → AllByRecursion (FitsArrow n) arrows → AreSolid (tree_lines (arrow_lines arrows))
arrows_solid n [] small all = tt
arrows_solid n (a ∷ arrows) small all = (
  line_solid (codes "to") (decimal a.to ∷ map form_text a.forms) (solid_by_test (codes "to") refl)
      (word_solid a.to all.0.to, all_map (FitsForm (n + 1)) Solid form_text (λ f fits. form_solid (n + 1) f small fits) a.forms all.0.forms),
  arrows_solid n arrows small all.1,
)

tree_append : (low high : Cases) → AreSolid (tree_lines (case_lines low)) → AreSolid (tree_lines (case_lines high))
    → AreSolid (tree_lines (case_lines low ++ case_lines high))
tree_append low high one other = rw (map-append node_line (case_lines low) (case_lines high))
    (all_append IsSolidLine (tree_lines (case_lines low)) (tree_lines (case_lines high)) one other)

cases_solid : (n : ℕ) (cases : Cases) → n + 1 ≤ 2 ^ 32 → FitsCases n cases → AreSolid (tree_lines (case_lines cases))
cases_solid n (leaf handed arrows) small fits = (
  line_solid (codes "leaf") (form_text handed ∷ []) (solid_by_test (codes "leaf") refl) (form_solid n handed (omega arith) fits.0, tt),
  arrows_solid n arrows small fits.1,
)
cases_solid n (split j v low high) small fits = (
  line_solid (codes "split") (decimal j ∷ decimal v ∷ []) (solid_by_test (codes "split") refl)
      (word_solid j (omega (arith, fits.0)), (count_solid v fits.1, tt)),
  tree_append low high (cases_solid n low small fits.2) (cases_solid n high small fits.3),
)

slot_solid : (k i p : ℕ) (fields : List ℕ) → k ≤ 16 → i < 2 ^ 32 → p < 2 ^ 32 → AllByRecursion (λ field. field < k) fields → AreSolid (slot_line i p fields)
slot_solid k i p [] few place small all = tt
slot_solid k i p (f ∷ fields) few place small all = (
  line_solid (codes "filled") (decimal i ∷ decimal p ∷ map decimal (f ∷ fields)) (solid_by_test (codes "filled") refl) (
    word_solid i place,
    (word_solid p small, all_map (λ field. field < k) Solid decimal (λ field below. word_solid field (omega (arith, below))) (f ∷ fields) all),
  ),
  tt,
)

filled_solid : (queues : List OpenedQueue) (i : ℕ) (filled : List Filled) → AreFew queues → i + length filled ≤ 2 ^ 32 → FitsFilled queues i filled
    → AreSolid (filled_lines i filled)
filled_solid queues i [] few place fits = tt
filled_solid queues i (slots ∷ filled) few place fits =
    let k = length (get_or queues i no_queue).fields in
    let small : i < 2 ^ 32 = omega arith in
    all_append IsSolidLine (slot_lines i 0 slots) (filled_lines (i + 1) filled)
    (at_solid (AllByRecursion (λ field. field < k)) (slot_line i) (λ p x below all. slot_solid k i p x (few.fields i) small below all) 0 slots
    (omega (arith, fits.0.few)) fits.0.fields)
    (filled_solid queues (i + 1) filled few (omega arith) fits.1)

state_solid : (queues : List OpenedQueue) (T words : ℕ) (s : ListedState) → AreFew queues → T ≤ 16 → words ≤ 64 → FitsState queues T words s
    → AreSolid (state_lines s)
state_solid queues T words s few few_tagged few_words fits =
    let N = length queues in
    let few_queues : length queues ≤ 2 ^ 32 = omega (arith, few.queues) in
    let n = length s.known.ranges in
    let small : n + 1 ≤ 2 ^ 32 = omega (arith, fits.variables) in
    let most = if_solid (codes "most") (map range_text s.known.ranges) (solid_by_test (codes "most") refl)
    (all_map FitsRange Solid range_text range_solid s.known.ranges fits.ranges) in
    let registers = values_solid N n (codes "reg") s.known.registers (omega arith) few_queues (omega (arith, fits.all_registers))
    (solid_by_test (codes "reg") refl) fits.registers in
    let own = values_solid N n (codes "word") s.known.words (omega arith) few_queues (omega (arith, fits.all_words))
    (solid_by_test (codes "word") refl) fits.words in
    let shares = at_solid (FitsShare n) (λ j share. share_line j share ∷ []) (λ j share below fits_share. share_solid n j share (omega arith) below fits_share)
    0 s.known.shares (omega (arith, fits.all_shares, few.queues)) fits.shares in
    let filled = filled_solid queues 0 s.filled few (omega (arith, fits.few_filled, few.queues)) fits.filled in
    let ranks = if_solid (codes "rank") (map form_text s.ranks) (solid_by_test (codes "rank") refl)
    (all_map (FitsForm n) Solid form_text (λ f fits_f. form_solid n f (omega (arith, fits.variables)) fits_f) s.ranks fits.ranks) in (
      line_solid (codes "state") (decimal s.known.pc ∷ []) (solid_by_test (codes "state") refl) (word_solid s.known.pc fits.pc, tt),
      all_append IsSolidLine (described_lines s ++ rank_lines s.ranks) (tree_lines (case_lines s.cases))
          (all_append IsSolidLine (described_lines s) (rank_lines s.ranks)
          (all_append IsSolidLine (known_lines s.known) (filled_lines 0 s.filled)
          (all_append IsSolidLine _ (share_lines 0 s.known.shares)
          (all_append IsSolidLine _ (value_lines (codes "word") 0 s.known.words)
          (all_append IsSolidLine (line_if (codes "most") (map range_text s.known.ranges)) (value_lines (codes "reg") 0 s.known.registers) most registers) own)
          shares)
          filled)
          ranks)
          (cases_solid n s.cases small fits.cases),
    )

goal_solid : (g : Goal) → FitsGoal g → IsSolidLine (goal_line g)
goal_solid (goal.Queue i K) fits =
    line_solid (codes "goes") (decimal i ∷ decimal K ∷ []) (solid_by_test (codes "goes") refl) (word_solid i fits.0, (count_solid K fits.1, tt))
goal_solid (goal.Tags i) fits = line_solid (codes "goes") (decimal i ∷ []) (solid_by_test (codes "goes") refl) (word_solid i fits, tt)
goal_solid (goal.Together K) fits =
    line_solid (codes "goes") (codes "-" ∷ decimal K ∷ []) (solid_by_test (codes "goes") refl) (solid_by_test (codes "-") refl, (count_solid K fits, tt))

lacks_solid : (queues : List ℕ) → AllByRecursion FitsWord queues → IsSolidLine (lacks_line queues)
lacks_solid queues fits =
    line_solid (codes "lacks") (map decimal queues) (solid_by_test (codes "lacks") refl) (all_map FitsWord Solid decimal word_solid queues fits)

part_solid : (queues : List OpenedQueue) (T : ℕ) (p : HartPart) → AreFew queues → T ≤ 16 → FitsPart queues T p → AreSolid (part_lines p)
part_solid queues T p few few_tagged fits =
    let own = if_solid (codes "own") (map own_word_text p.own) (solid_by_test (codes "own") refl)
    (all_map FitsOwn Solid own_word_text own_word_solid p.own fits.own) in
    let numbers : AllByRecursion Solid (map decimal (p.first ∷ p.numbers)) =
    (word_solid p.first fits.first, all_map FitsCount Solid decimal count_solid p.numbers fits.numbers) in
    let opening = line_solid (codes "open") (map decimal (p.first ∷ p.numbers)) (solid_by_test (codes "open") refl) numbers in
    let front = (codes "hart", []) ∷ line_if (codes "own") (map own_word_text p.own) ++ (codes "open", map decimal (p.first ∷ p.numbers)) ∷ [] in
    all_append IsSolidLine (front ++ map goal_line p.goals ++ map lacks_line p.lacking) (flat_map state_lines p.states)
    (all_append IsSolidLine (front ++ map goal_line p.goals) (map lacks_line p.lacking)
    (all_append IsSolidLine front (map goal_line p.goals)
    (all_append IsSolidLine ((codes "hart", []) ∷ line_if (codes "own") (map own_word_text p.own)) ((codes "open", map decimal (p.first ∷ p.numbers)) ∷ [])
    (line_solid (codes "hart") [] (solid_by_test (codes "hart") refl) tt, own) (opening, tt))
    (all_map FitsGoal IsSolidLine goal_line goal_solid p.goals fits.goals))
    (all_map (AllByRecursion FitsWord) IsSolidLine lacks_line lacks_solid p.lacking fits.lacking))
    (all_flat (FitsState queues T (length p.own)) IsSolidLine state_lines
    (λ s fits_s. state_solid queues T (length p.own) s few few_tagged fits.few_words fits_s) p.states fits.states)

queue_solid : (o : OpenedQueue) → FitsQueue o → IsSolidLine (queue_line o)
queue_solid o fits =
    let q = o.queue in
    let places = q.sender ∷ q.receiver ∷ q.head ∷ q.tail ∷ q.index_width ∷ [] in
    let slots = q.slots ∷ q.size ∷ q.width ∷ q.capacity ∷ q.base ∷ [] in
    let counts = q.scale ∷ q.offset ∷ q.modulus ∷ o.start ∷ [] in
    line_solid (codes "queue") (map decimal (numbers_of o)) (solid_by_test (codes "queue") refl)
    (all_append Solid (map decimal places) (map decimal slots ++ map decimal counts) (all_map FitsWord Solid decimal word_solid places fits.places)
    (all_append Solid (map decimal slots) (map decimal counts) (all_map FitsWord Solid decimal word_solid slots fits.slots)
    (all_map FitsCount Solid decimal count_solid counts fits.counts)))

field_solid : (f : Field) → FitsField f → IsSolidLine (field_line f)
field_solid f fits = line_solid (codes "field") (map decimal (field_numbers f)) (solid_by_test (codes "field") refl) (
  word_solid f.at fits.at,
  (word_solid f.width fits.width, (count_solid f.low fits.low, (count_solid f.step fits.step, (count_solid f.count fits.count, tt)))),
)

queue_lines_solid : (o : OpenedQueue) → FitsQueue o → AreSolid (queue_lines o)
queue_lines_solid o fits = (queue_solid o fits, all_map FitsField IsSolidLine field_line field_solid o.fields fits.fields)

codec_solid : (c : Codec) → FitsCodec c → AllByRecursion Solid (codec_words c)
codec_solid codec.Zero fits = (solid_by_test (codes "zero") refl, tt)
codec_solid codec.Number fits = (solid_by_test (codes "number") refl, tt)
codec_solid (codec.Bit mask free full) fits =
    (solid_by_test (codes "bits") refl, all_map FitsWord Solid decimal word_solid (mask ∷ free ∷ full ∷ []) fits)
codec_solid (codec.Phases mask free full odd_free odd_full) fits =
    (solid_by_test (codes "phases") refl, all_map FitsWord Solid decimal word_solid (mask ∷ free ∷ full ∷ odd_free ∷ odd_full ∷ []) fits)

elements_solid : (o : OpenedTagged) → FitsTagged o → AllByRecursion Solid (map decimal (element_numbers o.queue))
elements_solid o fits = by ((o.queue.tags == o.queue.slots) && (o.queue.tag_stride == o.queue.width))
  where
    by : (b : Bool) → AllByRecursion Solid (map decimal (if b then [] else o.queue.tags ∷ o.queue.tag_stride ∷ []))
    by true = tt
    by false = (word_solid o.queue.tags fits.tag.0, (word_solid o.queue.tag_stride fits.tag.1.0, tt))

tagged_solid : (o : OpenedTagged) → FitsTagged o → IsSolidLine (tagged_line o)
tagged_solid o fits =
    let q = o.queue in
    let slots = q.sender ∷ q.receiver ∷ q.slots ∷ q.size ∷ q.width ∷ [] in
    let tag = q.tag_offset ∷ q.tag_width ∷ [] in
    let after = map decimal (o.start ∷ element_numbers q) in
    line_solid (codes "tagged") (tagged_line o).1 (solid_by_test (codes "tagged") refl)
    (all_append Solid (map decimal slots) (map decimal tag ++ codec_words q.codec ++ after) (all_map FitsWord Solid decimal word_solid slots fits.slots)
    (all_append Solid (map decimal tag) (codec_words q.codec ++ after) (all_map FitsWord Solid decimal word_solid tag fits.tag.1.1)
    (all_append Solid (codec_words q.codec) after (codec_solid q.codec fits.codec) (count_solid o.start fits.start, elements_solid o fits))))

pub certificate_solid : (c : QueueCertificate) → CanBeWritten c → AreSolid (certificate_lines c)
certificate_solid c fits =
    let head = line_solid (codes "ztso-queues") (codes "1" ∷ []) (solid_by_test (codes "ztso-queues") refl) (solid_by_test (codes "1") refl, tt) in
    let queues = all_flat FitsQueue IsSolidLine queue_lines queue_lines_solid c.queues fits.queues in
    let tagged = all_map FitsTagged IsSolidLine tagged_line tagged_solid c.tagged fits.tagged in
    let few = are_few c.queues fits.few_queues fits.queues in
    let harts = all_flat (FitsPart c.queues (length c.tagged)) IsSolidLine part_lines
    (λ p fits_p. part_solid c.queues (length c.tagged) p few fits.few_tagged fits_p) c.harts fits.harts in
    all_append IsSolidLine (((codes "ztso-queues", codes "1" ∷ []) ∷ flat_map queue_lines c.queues) ++ map tagged_line c.tagged) (flat_map part_lines c.harts)
    (all_append IsSolidLine ((codes "ztso-queues", codes "1" ∷ []) ∷ flat_map queue_lines c.queues) (map tagged_line c.tagged) (head, queues) tagged) harts
