-- The functions: each line of a call, how a call begins, and which words a party's calls completed.
use Rattle.spsc_queue.proofs.Common.{ℕ, ◌+◌, ◌*◌, ◌<◌, ◌≡◌, inl, inr, Bool, true, false, List, [], refl, ◌∙◌, arith, HartState, Kind, lamport, fastforward}
use Rattle.spsc_queue.proofs.Common.{RingBuffer, ProtocolState, Block, IsBlock, listing_of, ring_at, enters, HasArguments, longest}
use Rattle.spsc_queue.specs.Calls.{Party, the_sender, the_receiver}
use Rattle.spsc_queue.proofs.Courses.{At, at_00, at_04, at_08, at_0C, at_10, at_14, at_18, at_1C, at_20, at_24, at_28, at_2C, at_30, at_34, at_38, at_3C, at_40}
use Rattle.spsc_queue.proofs.Courses.{number, Equipped, Course}
use Rattle.spsc_queue.proofs.Outline.{Part, part, Level, Near, OwnRow, more, Row, Inside, Stands, WordsAre, Moves}
use Rattle.spsc_queue.proofs.Cases.{by-bool}
use Rattle.spsc_queue.proofs.Completed.{entered}
use Rattle.spsc_queue.proofs.AllLines.{spot, short, Answered, none}
use Rattle.spsc_queue.proofs.CommonLines.{common_00, common_24, common_28, common_2C, common_30}
use Rattle.spsc_queue.proofs.LamportLines as lamports
use Rattle.spsc_queue.proofs.FastForwardLines as fastforwards

own_moves : (M n a b : ℕ) (p : Party) (K : Kind) (k : Block) (is : IsBlock M k) (h : ℕ) (s : HartState) (t : ProtocolState) (v : ℕ) → k.kind ≡ K
    → (has : Equipped M n (listing_of K k.caches p) s) → Near k (part p t) → (c : Course) (ws : List ℕ) (line : At) → s.pc ≡ 4 * (n + number line)
    → OwnRow n p K k (ring_at k a b) c ws line s.registers (part p t) → Moves n p K k (ring_at k a b) true ws c h s t v
own_moves M n a b the_sender lamport k is h s t v kind has near c ws line place row =
    by-bool (λ b2. Moves n the_sender lamport k (ring_at k a b) true ws c h s t v) k.caches
    (λ keeps. lamports.caches_at M n a b k is h s t v has near c ws keeps kind line place row)
    (λ plain. lamports.sends_at M n a b k is h s t v has near c ws plain line place row)
own_moves M n a b the_receiver lamport k is h s t v kind has near c ws line place row = lamports.takes_at M n a b k is h s t v has near c ws line place row
own_moves M n a b the_sender fastforward k is h s t v kind has near c ws line place row =
    fastforwards.sends_at M n a b k is h s t v kind has near c ws line place row
own_moves M n a b the_receiver fastforward k is h s t v kind has near c ws line place row =
    fastforwards.takes_at M n a b k is h s t v has near c ws line place row

-- the second line, where it has loaded its index
own_04 : (n : ℕ) (p : Party) (K : Kind) (k : Block) (r : RingBuffer) (c : Course) (ws x : List ℕ) (t : Part) → Row n p K k r c ws at_04 x t
    → OwnRow n p K k r c ws at_04 x t
own_04 n the_sender lamport k r c ws x t row = row
own_04 n the_receiver lamport k r c ws x t row = row
own_04 n p fastforward k r c ws x t row = row

pub moves_at : (M n a b : ℕ) (p : Party) (K : Kind) (k : Block) (is : IsBlock M k) (h : ℕ) (s : HartState) (t : ProtocolState) (v : ℕ) → k.kind ≡ K
    → (has : Equipped M n (listing_of K k.caches p) s) → Near k (part p t) → (c : Course) (ws : List ℕ) (line : At) → s.pc ≡ 4 * (n + number line)
    → Row n p K k (ring_at k a b) c ws line s.registers (part p t) → Answered (spot M n a b p K k is h s t v has c ws)
moves_at M n a b p K k is h s t v kind has near c ws at_00 place row = common_00 (spot M n a b p K k is h s t v has c ws) place row
moves_at M n a b p K k is h s t v kind has near c ws at_04 place row =
    none (spot M n a b p K k is h s t v has c ws) at_04 place (λ e. omega arith) (λ e. omega arith)
    (own_moves M n a b p K k is h s t v kind has near c ws at_04 place (own_04 n p K k (ring_at k a b) c ws s.registers (part p t) row))
moves_at M n a b p K k is h s t v kind has near c ws at_24 place row = common_24 (spot M n a b p K k is h s t v has c ws) place row
moves_at M n a b p K k is h s t v kind has near c ws at_28 place row = common_28 (spot M n a b p K k is h s t v has c ws) place row
moves_at M n a b p K k is h s t v kind has near c ws at_2C place row = common_2C (spot M n a b p K k is h s t v has c ws) place row
moves_at M n a b p K k is h s t v kind has near c ws at_30 place row = common_30 (spot M n a b p K k is h s t v has c ws) place row
moves_at M n a b p K k is h s t v kind has near c ws line place row =
    none (spot M n a b p K k is h s t v has c ws) line place (λ e. omega arith) (λ e. omega arith)
    (own_moves M n a b p K k is h s t v kind has near c ws line place row)

-- what a party's words are at each line, and that a call isn't too long
module _ (n : ℕ) (p : Party) (K : Kind) (k : Block) (r : RingBuffer) (c : Course) (ws : List ℕ) where
  own_facts : (line : At) (s : HartState) (t : Part) → OwnRow n p K k r c ws line s.registers t → WordsAre ws s t × (c.count < longest p r)
  own_facts line s t row = at p K line row (short p r)
    where
      at : (p : Party) (K : Kind) (line : At) → OwnRow n p K k r c ws line s.registers t
          → 10 + more p r < longest p r → WordsAre ws s t × (c.count < longest p r)
      at the_sender lamport at_04 row short = (inl (row.level, row.words), omega (arith, row.frame.left.count, short))
      at the_sender lamport at_08 row short = (inl (row.level, row.words), omega (arith, row.frame.left.count, short))
      at the_sender lamport at_0C row short = (inl (row.0.level, row.0.words), omega (arith, row.0.frame.left.count, short))
      at the_sender lamport at_10 row short = (inl (row.0.level, row.0.words), omega (arith, row.0.frame.left.count, short))
      at the_sender lamport at_14 row short = (inl (row.0.level, row.0.words), omega (arith, row.0.frame.left.count, short))
      at the_sender lamport at_18 row short = (inl (row.level, row.words), omega (arith, row.frame.left.count, short))
      at the_sender lamport at_1C row short = (inl (row.level, row.words), omega (arith, row.frame.left.count, short))
      at the_sender lamport at_20 row short = (inr row.words, omega (arith, row.frame.left.count, short))
      at the_sender lamport at_34 row short = (inl (row.level, row.words), omega (arith, row.frame.left.count, short))
      at the_sender lamport at_38 row short = (inl (row.level, row.words), omega (arith, row.frame.left.count, short))
      at the_sender lamport at_3C row short = (inl (row.0.level, row.0.words), omega (arith, row.0.frame.left.count, short))
      at the_sender lamport at_40 row short = (inl (row.0.level, row.0.words), omega (arith, row.0.frame.left.count, short))
      at the_receiver lamport at_04 row short = (inl (row.level, row.words), omega (arith, row.frame.left.count, short))
      at the_receiver lamport at_08 row short = (inl (row.level, row.words), omega (arith, row.frame.left.count, short))
      at the_receiver lamport at_0C row short = (inl (row.level, row.words), omega (arith, row.frame.left.count, short))
      at the_receiver lamport at_10 row short = (inl (row.0.level, row.0.words), omega (arith, row.0.frame.left.count, short))
      at the_receiver lamport at_14 row short = (inl (row.level, row.words), omega (arith, row.frame.left.count, short))
      at the_receiver lamport at_18 row short = (inl (row.level, row.words), omega (arith, row.frame.left.count, short))
      at the_receiver lamport at_1C row short = (inl (row.0.level, row.0.words), omega (arith, row.0.frame.left.count, short))
      at the_receiver lamport at_20 row short = (inl (row.level, row.words), omega (arith, row.frame.left.count, short))
      at p fastforward at_04 row short = (inl (row.level, row.words), omega (arith, row.frame.left.count, short))
      at p fastforward at_08 row short = (inl (row.0.level, row.0.words), omega (arith, row.0.frame.left.count, short))
      at p fastforward at_0C row short = (inl (row.0.level, row.0.words), omega (arith, row.0.frame.left.count, short))
      at p fastforward at_10 row short = (inl (row.level, row.words), omega (arith, row.frame.left.count, short))
      at p fastforward at_14 row short = (inl (row.level, row.words), omega (arith, row.frame.left.count, short))
      at p fastforward at_18 row short = (inl (row.0.level, row.0.words), omega (arith, row.0.frame.left.count, short))
      at p fastforward at_1C row short = (inl (row.level, row.words), omega (arith, row.frame.left.count, short))
      at p fastforward at_20 row short = (inr row.words, omega (arith, row.frame.left.count, short))
      at p K line row short = absurd row

  pub facts : (line : At) (s : HartState) (t : Part) → Row n p K k r c ws line s.registers t → WordsAre ws s t × (c.count < longest p r)
  facts at_00 s t row = (inl (row.level, row.words), omega (arith, row.frame.left.count, short p r))
  facts at_04 s t row = (inl (row.level, row.words), omega (arith, row.frame.left.count, short p r))
  facts at_24 s t row = (inr row.words, omega (arith, row.left.count, short p r))
  facts at_28 s t row = (inr row.0.words, omega (arith, row.0.left.count, short p r))
  facts at_2C s t row = (inl (row.level, row.words), omega (arith, row.left.count, short p r))
  facts at_30 s t row = (inl (row.0.level, row.0.words), omega (arith, row.0.left.count, short p r))
  facts line s t row = own_facts line s t row

pub words_are_by : (n : ℕ) (p : Party) (K : Kind) (k : Block) (r : RingBuffer) (b : Bool) (ws : List ℕ) (s : HartState) (t : Part)
    → Stands n p K k r b ws s t → WordsAre ws s t
words_are_by n p K k r false ws s t stands = inl stands
words_are_by n p K k r true ws s t stands = (facts n p K k r stands.0 ws stands.1.line s t stands.1.row).0

abbrev pub fresh_course : HartState → Course
fresh_course s = record { entry = s; count = 0; did = [] }

pub begins : (n : ℕ) (p : Party) (K : Kind) (k : Block) (r : RingBuffer) (ws : List ℕ) (s : HartState) (t : Part) → enters n k s ≡ true
    → HasArguments p n k s → Level t → t.words ≡ ws → Inside n p K k r ws (fresh_course s) s t
begins n p K k r ws s t on given level words =
    let there = entered n k s on in
    record {
      line = at_00;
      place = there.0 ∙ omega arith;
      row = (record {
        same = refl;
        frame = record { left = record { args = given; kept = λ i a b c d e. refl; count = omega arith }; block = there.1 };
        level = level;
        words = words;
        did = refl;
      });
    }
