-- What the functions' lines share: how a line's effect leads to the next line's row, and the returns.
use Rattle.spsc_queue.proofs.Common.{ℕ, pos, ◌+◌, ◌*◌, ◌/◌, ◌%◌, ◌^◌, ◌<◌, ◌≤◌, ◌≡◌, ◌≢◌, ◌==◌, ◌&&◌, Bool, true, false, if◌then◌else◌, Option, Some, None}
use Rattle.spsc_queue.proofs.Common.{List, [], ◌∷◌, ◌++◌, refl, sym, ◌∙◌, ap, subst, arith, append-nil, append_assoc, slice_index, slice_set, map, slice_get}
use Rattle.spsc_queue.proofs.Common.{eq-eqb, ne_eqb, reg_of, Instr, Immediate, Write, write, HartState, Need, next_pc, address, IsAt, nothing, load, store}
use Rattle.spsc_queue.proofs.Common.{access_of, entry_of, Kind, RingBuffer, next, overlaps, ProtocolState, room_at, says_full, next_by, Listed, words_of}
use Rattle.spsc_queue.proofs.Common.{lines_of, Block, IsBlock, listing_of, ring_at, is_in_call_after, completed_at, longest, IsPlainNeed, sees_full}
use Rattle.spsc_queue.proofs.Common.{look_accesses, completed_word, take_accesses, word-plus, add_line, goes_to, leaves_in}
use Rattle.rv_decode.specs.Meaning.{meaning}
use Rattle.rv_decode.specs.declared.instruction.Reg.{Reg}
use Rattle.rv_decode.specs.declared.instruction.Instr.TheVariants.{Jalr}
use Rattle.hart.specs.Steps.{advanced}
use Rattle.spsc_queue.specs.Calls.{Party, the_sender, the_receiver}
use Rattle.spsc_queue.specs.CallEffects.{longest_send}
use Rattle.step_machine.proofs.Lines.{Line, at_line, return_line, loads, stores}
use Rattle.spsc_queue.proofs.Registers.{set-same, set-other, decoded, thirteen, code_line, code_room, next_line, line_on}
use Rattle.spsc_queue.proofs.Courses.{more_left, At, at_24, at_28, at_2C, at_30, number, Equipped, Course, went, left_on, left_set, frame_on, frame_set}
use Rattle.spsc_queue.proofs.Courses.{more_frame, back_of, returned, Left, free_5, free_7, free_10, goes_on, completes_none, ends_10, ends_12, completes_one}
use Rattle.spsc_queue.proofs.Courses.{completes_no_word}
use Rattle.spsc_queue.proofs.Outline.{Part, part, role, Level, IsOffset, index_at, look_at, says_no, Knows, Looked, MayStore, Stored, Word, Found, looked}
use Rattle.spsc_queue.proofs.Outline.{ready, put, all_accesses, Effect, Fresh, Indexed, Seen, Ready, Half, Finished, Ended, Row, CourseStands, IsStore, Does}
use Rattle.spsc_queue.proofs.Outline.{Moves, first_look, detour, more}
use Rattle.spsc_queue.proofs.Parts.{level-next, inner-leaves, first-load, look-load, load-words, index-stored}
use Rattle.rv_decode.specs.declared.instruction.ImmediateOp.TheVariants as immediate
use Rattle.hart.specs.declared.need.Need.TheVariants as need

-- of a result that chose by a test
if_true : {X : Type 0} (b : Bool) (x y : X) → b ≡ true → x ≡ (if b then x else y)
if_true b x y is = sym (ap (λ c. if c then x else y) is)

pub if_false : {X : Type 0} (b : Bool) (x y : X) → b ≡ false → y ≡ (if b then x else y)
if_false b x y is = sym (ap (λ c. if c then x else y) is)

word_same : (p : Party) (s : HartState) (w : ℕ) → w ≡ slice_index s.registers 11 → Word p s w
word_same the_sender s w is = is
word_same the_receiver s w is = tt

-- what it saw at its first look says that there is no room, or no word: then it makes no other access
none_more : (p : Party) (K : Kind) (r : RingBuffer) (w u v : ℕ) → (p ≡ the_sender → r.copy ≡ None) → says_no p K r u v v ≡ true
    → looked p K r u v ≡ all_accesses p K r w u v v
none_more the_sender K r w u v plain says = at r.copy (plain refl) says
  where
    at : (q : Option ℕ) → q ≡ None → sees_full q K r u v v ≡ true → load r.head 4 u ∷ load (first_look q (room_at K r u)) 4 v ∷ []
        ≡ load r.head 4 u ∷ (look_accesses q K r u v v
        ++ (if sees_full q K r u v v then [] else store (write (r.slots + u) 4 w) ∷ store (write r.head 4 (next r u)) ∷ []))
    at None plain says = ap (λ ys. load r.head 4 u ∷ load (room_at K r u) 4 v ∷ ys)
        (if_true (says_full K r u v) [] (store (write (r.slots + u) 4 w) ∷ store (write r.head 4 (next r u)) ∷ []) says)
    at (Some c) plain says = absurd (cc)
none_more the_receiver K r w u v plain says =
    sym (ap (λ b. looked the_receiver K r u v ++ (if b then [] else take_accesses K r w u)) says)

-- a copy that says that there is room, or else the tail or the slot
pub found_room : (q : Option ℕ) (K : Kind) (r : RingBuffer) (u v : ℕ) → says_full K r u v ≡ false → sees_full q K r u v v ≡ false
found_room None K r u v some = some
found_room (Some c) K r u v some = ap (λ b. b && says_full K r u v) some

pub looked_once : (K : Kind) (r : RingBuffer) (u v : ℕ) → says_full K r u v ≡ false
    → looked the_sender K r u v ≡ load r.head 4 u ∷ look_accesses r.copy K r u v v
looked_once K r u v some = at r.copy
  where
    at : (q : Option ℕ) → load r.head 4 u ∷ load (first_look q (room_at K r u)) 4 v ∷ [] ≡ load r.head 4 u ∷ look_accesses q K r u v v
    at None = refl
    at (Some c) = ap (λ ys. load r.head 4 u ∷ load c 4 v ∷ ys)
        (if_false (says_full K r u v) (load (room_at K r u) 4 v ∷ (if says_full K r u v then [] else store (write c 4 v) ∷ [])) [] some)

-- a detour leaves a call short enough
pub short : (p : Party) (r : RingBuffer) → 10 + more p r < longest p r
short the_sender r = at r.copy
  where
    at : (q : Option ℕ) → 10 + detour q < longest_send q
    at None = omega arith
    at (Some c) = omega arith
short the_receiver r = omega arith

-- line j of a listing that stands in a hart's code
pub line_of : (M n : ℕ) (listing : List Listed) (s : HartState) (has : Equipped M n listing s)
    → map meaning (words_of listing) ≡ map Some (lines_of listing) → (j : ℕ) → s.pc ≡ 4 * (n + j) → {i : Instr}
    → slice_get (map Some (lines_of listing) ++ map meaning has.code.back) j ≡ Some (Some i) → IsAt s i
line_of M n listing s has decoded j place found = at_line s (n + j) place (code_line s.code n listing has.code decoded j ∙ found)

-- a hart whose state is s, at which it reads v, and which has the function of a party for a block; the protocol's state, its call so far, and
-- the words that its calls completed
pub record Spot (p : Party) (K : Kind) : Type 0 where
  pub M : ℕ
  pub n : ℕ
  pub a : ℕ
  pub b : ℕ
  pub k : Block
  pub is : IsBlock M k
  pub h : ℕ
  pub s : HartState
  pub t : ProtocolState
  pub v : ℕ
  pub has : Equipped M n (listing_of K k.caches p) s
  pub c : Course
  pub ws : List ℕ

abbrev pub spot : (M n a b : ℕ) (p : Party) (K : Kind) (k : Block) (is : IsBlock M k) (h : ℕ) (s : HartState) (t : ProtocolState) (v : ℕ)
    (has : Equipped M n (listing_of K k.caches p) s) (c : Course) (ws : List ℕ) → Spot p K
spot M n a b p K k is h s t v has c ws =
    record { M = M; n = n; a = a; b = b; k = k; is = is; h = h; s = s; t = t; v = v; has = has; c = c; ws = ws }

module _ {p : Party} {K : Kind} (g : Spot p K) where
  open g use {M, n, a, b, k, is, h, s, t, v, has, c, ws}

  abbrev pub r : RingBuffer
  r = ring_at k a b

  abbrev pub x : List ℕ
  x = s.registers

  by_line : {f : Bool} {ys : List ℕ} (m : Need) (after : ℕ → HartState) → Line s m after → IsPlainNeed m → Does p K r t (access_of (entry_of h m v))
      → CourseStands n p K k r f ys (went c (access_of (entry_of h m v))) (after v) (part p (next_by K r (role p) t (access_of (entry_of h m v))))
      → Moves n p K k r f ys c h s t v
  by_line {f} {ys} m after line plain rule stands = record {
    plain = subst IsPlainNeed (sym line.needs) plain;
    rule = subst (λ q. Does p K r t (access_of (entry_of h q v))) (sym line.needs) rule;
    after = subst (λ q. CourseStands n p K k r f ys (went c (access_of (entry_of h q v))) (advanced s v)
        (part p (next_by K r (role p) t (access_of (entry_of h q v)))))
        (sym line.needs) (subst (λ z. CourseStands n p K k r f ys (went c (access_of (entry_of h m v))) z
        (part p (next_by K r (role p) t (access_of (entry_of h m v))))) (sym (line.leaves v)) stands);
  }

  inner : {f : Bool} {ys : List ℕ} (z : HartState) → Line s need.Inner (λ q. z) → CourseStands n p K k r f ys (went c nothing) z (part p t)
      → Moves n p K k r f ys c h s t v
  inner {f} {ys} z line stands = by_line need.Inner (λ q. z) line tt tt
      (subst (λ u. CourseStands n p K k r f ys (went c nothing) z (part p u)) (sym (inner-leaves K r (role p) t)) stands)

  -- a line that accesses nothing, a load and a store lead to a line
  pub to_line : (line : At) (z : HartState) → Line s need.Inner (λ q. z) → z.pc ≡ 4 * (n + number line)
      → Row n p K k r (went c nothing) ws line z.registers (part p t) → Moves n p K k r true ws c h s t v
  to_line line z does place row = inner z does (record { line = line; place = place; row = row })

  pub loads_to : (line : At) (a : ℕ) (i : Reg) → Line s (loads a) (λ q. leaves_in s i q) → next_pc s.pc ≡ 4 * (n + number line)
      → Row n p K k r (went c (load a 4 v)) ws line (leaves_in s i v).registers (part p (next_by K r (role p) t (load a 4 v)))
      → Moves n p K k r true ws c h s t v
  loads_to line a i does place row = by_line (loads a) (λ q. leaves_in s i q) does tt tt (record { line = line; place = place; row = row })

  pub stores_to : (line : At) (a w : ℕ) → Line s (stores a w) (λ q. goes_to s (next_pc s.pc)) → next_pc s.pc ≡ 4 * (n + number line)
      → IsStore p K r t (write a 4 w) → Row n p K k r (went c (store (write a 4 w))) ws line x (part p (next_by K r (role p) t (store (write a 4 w))))
      → Moves n p K k r true ws c h s t v
  stores_to line a w does place rule row =
      by_line (stores a w) (λ q. goes_to s (next_pc s.pc)) does tt rule (record { line = line; place = place; row = row })

  room : 4 * (n + 13) < 2 ^ 32
  room = omega (arith, code_room s.code n (listing_of K k.caches p) has.code, (thirteen K k.caches p).0, has.code.small)

  pub line_at : (j : ℕ) → s.pc ≡ 4 * (n + j) → {i : Instr}
      → slice_get (map Some (lines_of (listing_of K k.caches p)) ++ map meaning has.code.back) j ≡ Some (Some i) → IsAt s i
  line_at j place found = line_of M n (listing_of K k.caches p) s has (decoded K k.caches p) j place found

  -- the next line, and one further on
  pub on : (j : ℕ) → s.pc ≡ 4 * (n + j) → j ≤ 12 → next_pc s.pc ≡ 4 * (n + (j + 1))
  on j place le = next_line s.pc (n + j) place (omega (arith, room, le)) ∙ omega arith

  pub over : (j m : ℕ) → s.pc ≡ 4 * (n + j) → j + m ≤ 12 → address s.pc (pos (4 * m)) ≡ 4 * (n + (j + m))
  over j m place le = line_on s.pc (n + j) m place (omega (arith, room, le)) ∙ omega arith

  -- an offset as the first instruction of wrapping makes it
  pub wraps_not : (u : ℕ) → u + 4 ≢ 4 * k.size → u + 4 ≡ next r u
  wraps_not u apart = sym (ap (λ q. if q then 0 else u + 4) (ne_eqb (u + 4) (4 * k.size) apart))

  pub wraps : (u : ℕ) → u + 4 ≡ 4 * k.size → 0 ≡ next r u
  wraps u full = sym (ap (λ q. if q then 0 else u + 4) (eq-eqb (u + 4) (4 * k.size) full))

  -- ---- from row to row

  -- a register other than 11 is written
  eleven : (i w : ℕ) → 11 ≢ i → slice_index x 11 ≡ slice_index (slice_set x i w) 11
  eleven i w other = sym (set-other x i 11 w other)

  pub word_set : (i w : ℕ) → 11 ≢ i → Word p c.entry (slice_index x 11) → Word p c.entry (slice_index (slice_set x i w) 11)
  word_set i w other word = subst (Word p c.entry) (eleven i w other) word

  -- the party loads its index into x5
  pub to_indexed : (a : ℕ) → a ≡ index_at p r → Fresh n p k c ws x (part p t)
      → Indexed n p k r (went c (load a 4 v)) 1 ws (slice_set x 5 v) (part p (next_by K r (role p) t (load a 4 v)))
  to_indexed a here f =
      let five : v ≡ slice_index (slice_set x 5 v) 5 = sym (set-same x 5 v (omega (arith, has.size))) in
      let T : Part = part p (next_by K r (role p) t (load a 4 v)) in
      record {
        frame = frame_set (load a 4 v) 5 v free_5 (λ e. omega arith) f.frame;
        word = word_same p c.entry (slice_index (slice_set x 5 v) 11) (sym (eleven 5 v (λ e. omega arith)) ∙ ap (λ y. slice_index y 11) (sym f.same));
        knows = subst (λ y. Knows p y T) five (first-load K r p t a v f.level here);
        level = (level-next K r p t (load a 4 v) tt f.level).0;
        words = load-words K r p t a v ∙ f.words;
        did = ap (λ ys. ys ++ load a 4 v ∷ []) f.did ∙ ap (λ y. load y 4 v ∷ []) here ∙ ap (λ y. load (index_at p r) 4 y ∷ []) five;
      }

  -- x7 is written
  pub indexed_7 : {m : ℕ} (w : ℕ) → Indexed n p k r c m ws x (part p t) → Indexed n p k r (went c nothing) (m + 1) ws (slice_set x 7 w) (part p t)
  indexed_7 w f =
      let five : slice_index x 5 ≡ slice_index (slice_set x 7 w) 5 = sym (set-other x 7 5 w (λ e. omega arith)) in
      record {
        frame = frame_set nothing 7 w free_7 (λ e. omega arith) f.frame;
        word = word_set 7 w (λ e. omega arith) f.word;
        knows = subst (λ y. Knows p y (part p t)) five f.knows;
        level = f.level;
        words = f.words;
        did = append-nil c.did ∙ f.did ∙ ap (λ y. load (index_at p r) 4 y ∷ []) five;
      }

  -- the party looks, into register i
  pub to_seen : {m : ℕ} (a i : ℕ) → ((j : ℕ) → j ≢ 5 → j ≢ 6 → j ≢ 7 → j ≢ 10 → j ≢ 11 → j ≢ i) → 5 ≢ i → 10 ≢ i → i < 32
      → Word p c.entry (slice_index (slice_set x i v) 11) → a ≢ index_at p r → a ≡ look_at p K r (slice_index x 5) → Indexed n p k r c m ws x (part p t)
      → Seen n p K k r (went c (load a 4 v)) (m + 1) i ws (slice_set x i v) (part p (next_by K r (role p) t (load a 4 v)))
  to_seen a i free five_i ten_i below word other here f =
      let five : slice_index x 5 ≡ slice_index (slice_set x i v) 5 = sym (set-other x i 5 v five_i) in
      let got : v ≡ slice_index (slice_set x i v) i = sym (set-same x i v (omega (arith, has.size, below))) in
      let T : Part = part p (next_by K r (role p) t (load a 4 v)) in
      record {
        frame = frame_set (load a 4 v) i v free ten_i f.frame;
        word = word;
        knows = subst (λ y. Looked p K r y (slice_index (slice_set x i v) i) T) five (subst (λ y. Looked p K r (slice_index x 5) y T) got
            (look-load K r p t a v (slice_index x 5) f.knows other here));
        level = (level-next K r p t (load a 4 v) tt f.level).0;
        words = load-words K r p t a v ∙ f.words;
        did = ap (λ ys. ys ++ load a 4 v ∷ []) f.did ∙ ap (λ y. load (index_at p r) 4 (slice_index x 5) ∷ load y 4 v ∷ []) here
            ∙ ap (λ y. looked p K r (slice_index x 5) y) got ∙ ap (λ y. looked p K r y (slice_index (slice_set x i v) i)) five;
      }

  -- what it saw says that there is no room, or no word
  pub to_no : {m i : ℕ} → m + 1 ≤ 8 → (p ≡ the_sender → r.copy ≡ None) → says_no p K r (slice_index x 5) (slice_index x i) (slice_index x i) ≡ true
      → Found p K (slice_index x i) (slice_index x 11)
      → IsOffset k (slice_index x 5) → Seen n p K k r c m i ws x (part p t) → Finished n p K k r (went c nothing) 8 ws x (part p t) 0
  to_no {m} {i} le plain says found among f = record {
    no = true;
    choice = record { place = slice_index x 5; copy = slice_index x i; seen = slice_index x i; says = says };
    left = more_left le (left_on nothing f.frame.left);
    word = f.word;
    found = found;
    level = f.level;
    among = among;
    words = f.words;
    did = append-nil c.did ∙ f.did ∙ none_more p K r (slice_index x 11) (slice_index x 5) (slice_index x i) plain says;
    answers = refl;
  }

  -- or that there is one, and it may store
  pub to_ready : {m i : ℕ} (seven : ℕ → ℕ) (l : ℕ) → m + 1 ≤ l → says_no p K r (slice_index x 5) (slice_index x i) (slice_index x i) ≡ false
      → Found p K (slice_index x i) (slice_index x 11) → MayStore p (slice_index x 5) (slice_index x 11) (part p t) → slice_index x 7 ≡ seven (slice_index x 5)
      → looked p K r (slice_index x 5) (slice_index x i) ≡ ready p K r (slice_index x 5) (slice_index x i) (slice_index x i) (slice_index x 11)
      → Seen n p K k r c m i ws x (part p t) → Ready n p K k r (went c nothing) l ws x (part p t) (λ u. u) seven
  to_ready {m} {i} seven l le some found knows x7 same f = record {
    choice = record { place = slice_index x 5; copy = slice_index x i; seen = slice_index x i; says = some };
    frame = more_frame le (frame_on nothing f.frame);
    word = f.word;
    found = found;
    knows = knows;
    level = f.level;
    x5 = refl;
    x7 = x7;
    words = f.words;
    did = append-nil c.did ∙ f.did ∙ same;
  }

  -- x5 is written, or nothing
  pub ready_5 : {m : ℕ} (five seven new : ℕ → ℕ) (w : ℕ) (q : Ready n p K k r c m ws x (part p t) five seven) → w ≡ new q.place
      → Ready n p K k r (went c nothing) (m + 1) ws (slice_set x 5 w) (part p t) new seven
  ready_5 five seven new w q is_new =
      let same : slice_index x 11 ≡ slice_index (slice_set x 5 w) 11 = eleven 5 w (λ e. omega arith) in
      record {
        choice = q.choice;
        frame = frame_set nothing 5 w free_5 (λ e. omega arith) q.frame;
        word = word_set 5 w (λ e. omega arith) q.word;
        found = subst (Found p K q.seen) same q.found;
        knows = subst (λ y. MayStore p q.place y (part p t)) same q.knows;
        level = q.level;
        x5 = set-same x 5 w (omega (arith, has.size)) ∙ is_new;
        x7 = set-other x 5 7 w (λ e. omega arith) ∙ q.x7;
        words = q.words;
        did = append-nil c.did ∙ q.did ∙ ap (ready p K r q.place q.copy q.seen) same;
      }

  pub ready_on : {m l : ℕ} (five seven new : ℕ → ℕ) → m + 1 ≤ l → (q : Ready n p K k r c m ws x (part p t) five seven) → five q.place ≡ new q.place
      → Ready n p K k r (went c nothing) l ws x (part p t) new seven
  ready_on five seven new le q same = record {
    choice = q.choice;
    frame = more_frame le (frame_on nothing q.frame);
    word = q.word;
    found = q.found;
    knows = q.knows;
    level = q.level;
    x5 = q.x5 ∙ same;
    x7 = q.x7;
    words = q.words;
    did = append-nil c.did ∙ q.did;
  }

  -- the slot is stored, of which this becomes
  pub to_half : {m : ℕ} (l : ℕ) → m + 1 ≤ l → (made : Write) (i : ℕ) (five seven : ℕ → ℕ) (q : Ready n p K k r c m ws x (part p t) five seven)
      → made ≡ write (r.slots + q.place) 4 (put p (slice_index x 11)) → slice_index x i ≡ next r q.place
      → Stored p q.place (part p (next_by K r (role p) t (store made)))
      → (part p (next_by K r (role p) t (store made))).words ≡ (part p t).words ++ slice_index x 11 ∷ []
      → Half n p K k r (went c (store made)) l i ws x (part p (next_by K r (role p) t (store made)))
  to_half l le made i five seven q is_made after knows words = record {
    choice = q.choice;
    frame = more_frame le (frame_on (store made) q.frame);
    word = q.word;
    found = q.found;
    knows = knows;
    after = after;
    words = words ∙ ap (λ ys. ys ++ slice_index x 11 ∷ []) q.words;
    did = ap (λ ys. ys ++ store made ∷ []) q.did ∙ ap (λ y. ready p K r q.place q.copy q.seen (slice_index x 11) ++ store y ∷ []) is_made;
  }

  -- the index is stored
  pub to_finished : {m i : ℕ} (l : ℕ) → m + 1 ≤ l → (made : Write) → overlaps r made ≡ true → (q : Half n p K k r c m i ws x (part p t))
      → made ≡ write (index_at p r) 4 (next r q.place) → IsOffset k q.place
      → ready p K r q.place q.copy q.seen (slice_index x 11) ++ store (write (r.slots + q.place) 4 (put p (slice_index x 11))) ∷
      store (write (index_at p r) 4 (next r q.place)) ∷ [] ≡ all_accesses p K r (slice_index x 11) q.place q.copy q.seen
      → Finished n p K k r (went c (store made)) l (ws ++ slice_index x 11 ∷ []) x (part p (next_by K r (role p) t (store made))) 1
  to_finished l le made hits q is_made among whole =
      let becomes = index-stored K r made hits p t q.place q.knows in
      record {
        no = false;
        choice = q.choice;
        left = more_left le (left_on (store made) q.frame.left);
        word = q.word;
        found = q.found;
        level = subst Level (sym becomes) (record { sending = tt; receiving = tt });
        among = among;
        words = ap (λ (y : Part). y.words) becomes ∙ q.words;
        did = ap (λ ys. ys ++ store made ∷ []) q.did ∙ append_assoc (ready p K r q.place q.copy q.seen (slice_index x 11))
            (store (write (r.slots + q.place) 4 (put p (slice_index x 11))) ∷ []) (store made ∷ [])
            ∙ ap (λ y. ready p K r q.place q.copy q.seen (slice_index x 11)
            ++ store (write (r.slots + q.place) 4 (put p (slice_index x 11))) ∷ store y ∷ []) is_made ∙ whole;
        answers = refl;
      }

  -- a0 is written
  answers_on : {m answer : ℕ} {ys : List ℕ} (l : ℕ) → m + 1 ≤ l → (y : ℕ) → Finished n p K k r c m ys x (part p t) answer
      → Finished n p K k r (went c nothing) l ys (slice_set x 10 y) (part p t) answer
  answers_on l le y f =
      let same : slice_index x 11 ≡ slice_index (slice_set x 10 y) 11 = eleven 10 y (λ e. omega arith) in
      record {
        no = f.no;
        choice = f.choice;
        left = more_left le (left_set nothing 10 y free_10 f.left);
        word = word_set 10 y (λ e. omega arith) f.word;
        found = subst (Found p K f.seen) same f.found;
        level = f.level;
        among = f.among;
        words = f.words;
        did = append-nil c.did ∙ f.did ∙ ap (λ w. all_accesses p K r w f.place f.copy f.seen) same;
        answers = f.answers;
      }

  sets_10 : (y : ℕ) → y < 2 ^ 32 → IsAt s (Immediate immediate.Add (reg_of 10) (reg_of 0) (pos y)) → Line s need.Inner (λ q. leaves_in s (reg_of 10) y)
  sets_10 y small here = add_line here (word-plus (slice_index x 0) y (omega (arith, has.zero, small)) ∙ omega (arith, has.zero))

  -- ---- what the line completes, and whether the party is in a call after it

  abbrev pub Answered : Type 0
  Answered = Moves n p K k r (is_in_call_after n k true s (advanced s v)) (ws ++ completed_at n true s) c h s t v
      × (completed_at n true s ≡ (if is_in_call_after n k true s (advanced s v) then [] else completed_word (advanced s v)))

  answered : (f : Bool) (ys : List ℕ) → is_in_call_after n k true s (advanced s v) ≡ f → completed_at n true s ≡ ys
      → ys ≡ (if f then [] else completed_word (advanced s v)) → Moves n p K k r f (ws ++ ys) c h s t v → Answered
  answered f ys goes all word moves = (
    subst (λ q. Moves n p K k r q (ws ++ completed_at n true s) c h s t v) (sym goes) (subst (λ q. Moves n p K k r f (ws ++ q) c h s t v) (sym all) moves),
    all ∙ word ∙ ap (λ q. if q then [] else completed_word (advanced s v)) (sym goes),
  )

  -- each line except the returns
  pub none : (line : At) → s.pc ≡ 4 * (n + number line) → number line ≢ 10 → number line ≢ 12 → Moves n p K k r true ws c h s t v → Answered
  none line place ten twelve moves =
      answered true [] (goes_on n k s (advanced s v) (number line) place ten twelve) (completes_none n k s (advanced s v) (number line) place ten twelve) refl
      (subst (λ ys. Moves n p K k r true ys c h s t v) (sym (append-nil ws)) moves)

  module _ {m answer : ℕ} {ys : List ℕ} (le : m < longest p r) (here : IsAt s (Jalr (reg_of 0) (reg_of 1) (pos 0)))
      (f : Ended n p K k r c m ys x (part p t) answer) where
    abbrev back : HartState
    back = goes_to s (slice_index x 1 / 2 * 2)

    line : Line s need.Inner (λ q. back)
    line = return_line here (omega (arith, back_of f.0.left, f.0.left.args.back_small))
        (subst (λ y. y / 2 * 2 % 4 ≡ 0) (sym (back_of f.0.left)) f.0.left.args.back_aligned)

    effect : Effect p K r c.entry back (c.count + 1) (c.did ++ [])
    effect = at p K le f.0.left f.0.word f.0.found f.0.did (f.0.answers ∙ ap (λ b. if b then 0 else 1) (sym f.0.says))
      where
        at : (p2 : Party) (K : Kind) → m < longest p2 r → Left n p k c m x → Word p2 c.entry (slice_index x 11) → Found p2 K f.0.seen (slice_index x 11)
            → c.did ≡ all_accesses p2 K r (slice_index x 11) f.0.place f.0.copy f.0.seen
            → answer ≡ (if says_no p2 K r f.0.place f.0.copy f.0.seen then 0 else 1) → Effect p2 K r c.entry back (c.count + 1) (c.did ++ [])
        at the_sender K le left word found did answers = record {
          returns = returned (longest the_sender r) back le refl refl left;
          word = word;
          head = f.0.place;
          copy = f.0.copy;
          seen = f.0.seen;
          among = f.0.among.0;
          aligned = f.0.among.1;
          accesses = append-nil c.did ∙ did ∙ ap (λ w. all_accesses the_sender K r w f.0.place f.0.copy f.0.seen) word;
          answer = f.1 ∙ answers;
        }
        at the_receiver K le left word found did answers = record {
          returns = returned (longest the_receiver r) back le refl refl left;
          tail = f.0.place;
          seen = f.0.seen;
          among = f.0.among.0;
          aligned = f.0.among.1;
          found = found;
          accesses = append-nil c.did ∙ did;
          answer = f.1 ∙ answers;
        }

    goes_back : Moves n p K k r false ys c h s t v
    goes_back = inner back line (record { level = f.0.level; words = f.0.words; effect = effect })

    goes_elsewhere : (advanced s v).pc ≢ 4 * n
    goes_elsewhere e =
        let there : (advanced s v).pc ≡ slice_index x 1 / 2 * 2 = ap (λ (z : HartState). z.pc) (line.leaves v) in
        f.0.left.args.back (ap (λ y. y / 2 * 2) (sym (back_of f.0.left)) ∙ sym there ∙ e)

    -- the word that it completes, in the state after it
    left_word : completed_word (advanced s v) ≡ (if slice_index x 10 == 1 then slice_index x 11 ∷ [] else [])
    left_word = ap completed_word (line.leaves v)

  pub returns_1 : {m : ℕ} → m < longest p r → s.pc ≡ 4 * (n + 10) → IsAt s (Jalr (reg_of 0) (reg_of 1) (pos 0))
      → Ended n p K k r c m (ws ++ slice_index x 11 ∷ []) x (part p t) 1 → Answered
  returns_1 le place here f = answered false (slice_index x 11 ∷ []) (ends_10 n k s (advanced s v) place (goes_elsewhere le here f))
      (completes_one n k s (advanced s v) place f.1)
      (sym (left_word le here f ∙ ap (λ b. if b then slice_index x 11 ∷ [] else []) (eq-eqb (slice_index x 10) 1 f.1))) (goes_back le here f)

  pub returns_0 : {m : ℕ} → m < longest p r → s.pc ≡ 4 * (n + 12) → IsAt s (Jalr (reg_of 0) (reg_of 1) (pos 0))
      → Ended n p K k r c m ws x (part p t) 0 → Answered
  returns_0 le place here f = answered false [] (ends_12 n k s (advanced s v) place (goes_elsewhere le here f))
      (completes_no_word n k s (advanced s v) place f.1)
      (sym (left_word le here f ∙ ap (λ b. if b then slice_index x 11 ∷ [] else []) (ne_eqb (slice_index x 10) 1 (λ e. omega (arith, f.1, e)))))
      (subst (λ ys. Moves n p K k r false ys c h s t v) (sym (append-nil ws)) (goes_back le here f))

  -- ---- the last lines, which all functions have in the same place

  pub answers_1 : s.pc ≡ 4 * (n + 9) → IsAt s (Immediate immediate.Add (reg_of 10) (reg_of 0) (pos 1)) → Row n p K k r c ws at_24 x (part p t) → Answered
  answers_1 place here row =
      none at_24 place (λ e. omega arith) (λ e. omega arith)
      (to_line at_28 (leaves_in s (reg_of 10) 1) (sets_10 1 (omega arith) here) (on 9 place (omega arith)) (
        subst (λ w. Finished n p K k r (went c nothing) (10 + more p r) (ws ++ w ∷ []) (slice_set x 10 1) (part p t) 1) (eleven 10 1 (λ e. omega arith))
            (answers_on (10 + more p r) (omega arith) 1 row),
        set-same x 10 1 (omega (arith, has.size)),
      ))

  pub answers_0 : s.pc ≡ 4 * (n + 11) → IsAt s (Immediate immediate.Add (reg_of 10) (reg_of 0) (pos 0)) → Row n p K k r c ws at_2C x (part p t) → Answered
  answers_0 place here row = none at_2C place (λ e. omega arith) (λ e. omega arith)
      (to_line at_30 (leaves_in s (reg_of 10) 0) (sets_10 0 (omega arith) here) (on 11 place (omega arith))
      (answers_on 9 (omega arith) 0 row, set-same x 10 0 (omega (arith, has.size))))
