-- A state that may follow says of queues with tags what the state before did, as far as the instruction is of none.
use Rattle.std.proofs.Common.{ℕ, ℤ, ◌<◌, ◌≤◌, ◌≡◌, ◌≢◌, if◌then◌else◌, Bool, true, false, Option, Some, None, List, [], ◌∷◌, length, get_or, refl, sym, ◌∙◌, ap}
use Rattle.std.proofs.Common.{subst, arith}
use Rattle.std.specs.Prelude.{map}
use Rattle.std.proofs.lemmas.List.{length-set, length-map, get_or-set_other}
use Rattle.rv_decode.specs.declared.instruction.Reg.{Reg}
use Rattle.rv_decode.specs.declared.instruction.BranchOp.{BranchOp}
use Rattle.rv_decode.specs.declared.instruction.BranchOp.TheVariants as branch
use Rattle.rv_decode.specs.declared.instruction.LoadOp.{LoadOp}
use Rattle.rv_decode.specs.declared.instruction.AmoOp.{AmoOp}
use Rattle.rv_decode.specs.declared.instruction.Instr.{Instr}
use Rattle.rv_decode.specs.declared.instruction.Instr.TheVariants.{Lui, Auipc, Jal, Jalr, Branch, Load, Store, Immediate, Shift, Register, Fence, FenceTso}
use Rattle.rv_decode.specs.declared.instruction.Instr.TheVariants.{Ecall, Ebreak, Amo}
use Rattle.hart.specs.Effects.{next_pc, load_width}
use Rattle.slot_queue.specs.Queues.{Queue}
use Rattle.queue_certificates.specs.{OwnWord, Field, Form, lifted, Bounds, KnownValue, Share, no_share}
use Rattle.queue_certificates.specs.{is_any, with_register, share_by, KnownState, Result, last_below, with_result}
use Rattle.queue_certificates.specs.{going_to, goes_by, jumping, called, shared, when_taken, when_passed}
use Rattle.queue_certificates.specs.{after_load, load_by, loading, shares_moved, after_store, storing, after_exchange, exchanging, follow, moved_share}
use Rattle.queue_certificates.specs.{looked_share, is_look, is_own_index, field_number, keeps_numbers, after_field, next_received}
use Rattle.queue_certificates.proofs.Forms.{value-lifted}
use Rattle.queue_certificates.proofs.Accesses.{found-below}
use Rattle.queue_certificates.proofs.Received.{none-follows}
use Rattle.queue_certificates.proofs.TagShares.{IsSameShare, same-by}

-- as many shares, and from that of queue N on the same ones, over one variable more
pub record Keeps (N : ℕ) (k t : KnownState) : Type 0 where
  pub long : length t.shares ≡ length k.shares
  pub same : (i : ℕ) → N ≤ i → (x : ℕ) (xs : List ℕ) → IsSameShare xs (x ∷ xs) (get_or k.shares i no_share) (get_or t.shares i no_share)

abbrev pub AllKeep : (N : ℕ) → KnownState → List KnownState → Type 0
AllKeep N k [] = Unit {0}
AllKeep N k (t ∷ ts) = Keeps N k t × AllKeep N k ts

-- from a state with the same shares there
keeps-lifted : (N : ℕ) (k : KnownState) (ss : List Share) (t : KnownState) → length ss ≡ length k.shares
    → ((i : ℕ) → N ≤ i → get_or ss i no_share ≡ get_or k.shares i no_share) → t.shares ≡ map (share_by lifted) ss → Keeps N k t
keeps-lifted N k ss t long same is = record {
  long = ap length is ∙ length-map ss (share_by lifted) ∙ long;
  same = λ i from x xs. subst (λ us. IsSameShare xs (x ∷ xs) (get_or k.shares i no_share) (get_or us i no_share)) (sym is)
      (subst (λ s. IsSameShare xs (x ∷ xs) s (get_or (map (share_by lifted) ss) i no_share)) (same i from)
      (same-by lifted xs (x ∷ xs) (λ f. value-lifted f x xs) ss i));
}

pub keeps-same : (N : ℕ) (k t : KnownState) → t.shares ≡ map (share_by lifted) k.shares → Keeps N k t
keeps-same N k t is = keeps-lifted N k k.shares t refl (λ i from. refl) is

keeps-is : (N : ℕ) (k : KnownState) (ts ks : List KnownState) → AllKeep N k ts → ◌≡◌ {A = Option (List KnownState)} (Some ts) (Some ks) → AllKeep N k ks
keeps-is N k ts ks keeps is = subst (AllKeep N k) (let same : ts ≡ ks = cc in same) keeps

keeps-if : (N : ℕ) (k : KnownState) (b : Bool) (ts ks : List KnownState) → AllKeep N k ts → (if b then Some ts else None) ≡ Some ks → AllKeep N k ks
keeps-if N k true ts ks keeps is = keeps-is N k ts ks keeps is
keeps-if N k false ts ks keeps is = absurd (cc)

keeps-result : (N : ℕ) (k : KnownState) (rd pc : ℕ) (r : Result) (ks : List KnownState)
    → ◌≡◌ {A = Option (List KnownState)} (Some (with_result k rd pc r ∷ [])) (Some ks) → AllKeep N k ks
keeps-result N k rd pc r ks is = keeps-is N k (with_result k rd pc r ∷ []) ks (keeps-same N k (with_result k rd pc r) refl, tt) is

-- ---- branches

shared-shares : (k : KnownState) (rs1 rs2 : Reg) (v w : KnownValue) → (shared k rs1 rs2 v w).shares ≡ k.shares
shared-shares k rs1 rs2 v w = by (is_any v) (is_any w)
  where
    by : (a b : Bool) → (if a then record k { registers = with_register k.registers rs1.number w }
        else (if b then record k { registers = with_register k.registers rs2.number v } else k)).shares ≡ k.shares
    by true b = refl
    by false true = refl
    by false false = refl

taken-shares : (k : KnownState) (op : BranchOp) (rs1 rs2 : Reg) → (when_taken k op rs1 rs2).shares ≡ k.shares
taken-shares k branch.Equal rs1 rs2 = shared-shares k rs1 rs2 _ _
taken-shares k op rs1 rs2 = refl

passed-shares : (k : KnownState) (op : BranchOp) (rs1 rs2 : Reg) → (when_passed k op rs1 rs2).shares ≡ k.shares
passed-shares k branch.NotEqual rs1 rs2 = shared-shares k rs1 rs2 _ _
passed-shares k op rs1 rs2 = refl

keeps-going : (N : ℕ) (k j : KnownState) (pc : ℕ) → j.shares ≡ k.shares → Keeps N k (going_to j pc)
keeps-going N k j pc same = keeps-same N k (going_to j pc) (ap (map (share_by lifted)) same)

keeps-branch : (N : ℕ) (k t p : KnownState) (target next : ℕ) (o : Option Bool) → t.shares ≡ k.shares → p.shares ≡ k.shares
    → AllKeep N k (goes_by t p target next o)
keeps-branch N k t p target next None one two = (keeps-going N k t target one, (keeps-going N k p next two, tt))
keeps-branch N k t p target next (Some true) one two = (keeps-going N k t target one, tt)
keeps-branch N k t p target next (Some false) one two = (keeps-going N k p next two, tt)

-- of hart h, where there are N queues with indices
module _ (queues : ℕ → Queue) (N : ℕ) (own_of : ℕ → List OwnWord) (H h : ℕ) (k : KnownState) where
  keeps-jump : (rd : ℕ) (offset : ℤ) (a : Option ℕ) (ks : List KnownState) → jumping k rd offset a ≡ Some ks → AllKeep N k ks
  keeps-jump rd offset None ks is = absurd (cc)
  keeps-jump rd offset (Some a) ks is = keeps-result N k rd _ _ ks is

  -- ---- loads

  look-apart : (i j : ℕ) → i < N → N ≤ j → j ≢ i
  look-apart i j less from same = omega (arith, less, from, same)

  keeps-load : (op : LoadOp) (rd : ℕ) (b : Bounds) (look : Option ℕ) → ((i : ℕ) → look ≡ Some i → i < N)
      → Keeps N k (after_load queues N own_of h k op rd b look)
  keeps-load op rd b None below = keeps-same N k (after_load queues N own_of h k op rd b None) refl
  keeps-load op rd b (Some i) below =
      let less : i < N = below i refl in record {
        long = length-set (map (share_by lifted) k.shares) i _ ∙ length-map k.shares (share_by lifted);
        same = λ j from x xs. subst (λ s. IsSameShare xs (x ∷ xs) (get_or k.shares j no_share) s)
            (sym (get_or-set_other (map (share_by lifted) k.shares) i j (looked_share (get_or k.shares i no_share)) no_share (look-apart i j less from)))
            (same-by lifted xs (x ∷ xs) (λ f. value-lifted f x xs) k.shares j);
      }

  keeps-loading : (op : LoadOp) (rd : ℕ) (b : Bounds) (ks : List KnownState) → loading queues N own_of h k op rd b ≡ Some ks → AllKeep N k ks
  keeps-loading op rd b ks is = by (last_below N (is_look queues h b (load_width op))) refl is
    where
      by : (look : Option ℕ) → last_below N (is_look queues h b (load_width op)) ≡ look
          → load_by queues N own_of h k op rd b look ≡ Some ks → AllKeep N k ks
      by look found is = keeps-if N k _ (after_load queues N own_of h k op rd b look ∷ []) ks
          (keeps-load op rd b look (λ i at. (found-below N (is_look queues h b (load_width op)) i (found ∙ at)).0), tt) is

  -- ---- stores and AMOs

  moved-keeps : (d : Form) (move : Option ℕ) → ((i : ℕ) → move ≡ Some i → i < N)
      → (length (shares_moved k.shares d move) ≡ length k.shares)
      × ((j : ℕ) → N ≤ j → get_or (shares_moved k.shares d move) j no_share ≡ get_or k.shares j no_share)
  moved-keeps d None below = (refl, λ j from. refl)
  moved-keeps d (Some i) below = (
    length-set k.shares i (moved_share (get_or k.shares i no_share) d),
    λ j from. get_or-set_other k.shares i j (moved_share (get_or k.shares i no_share) d) no_share (look-apart i j (below i refl) from),
  )

  own-below : (b : Bounds) (width : ℕ) (i : ℕ) → last_below N (is_own_index queues h b width) ≡ Some i → i < N
  own-below b width i is = (found-below N (is_own_index queues h b width) i is).0

  keeps-storing : (d : Form) (width : ℕ) (v place : KnownValue) (b : Bounds) (ks : List KnownState)
      → storing queues N own_of H h k d width v place b ≡ Some ks → AllKeep N k ks
  keeps-storing d width v place b ks is =
      let m = moved-keeps d (last_below N (is_own_index queues h b width)) (own-below b width) in
      keeps-if N k _ (after_store queues N own_of h k d width v b (last_below N (is_own_index queues h b width)) ∷ []) ks
      (keeps-lifted N k (shares_moved k.shares d (last_below N (is_own_index queues h b width))) _ m.0 m.1 refl, tt) is

  keeps-exchanging : (d : Form) (op : AmoOp) (rd : ℕ) (v place : KnownValue) (b : Option Bounds) (ks : List KnownState)
      → exchanging queues N own_of H h k d op rd v place b ≡ Some ks → AllKeep N k ks
  keeps-exchanging d op rd v place None ks is = absurd (cc)
  keeps-exchanging d op rd v place (Some b) ks is =
      let m = moved-keeps d (last_below N (is_own_index queues h b 4)) (own-below b 4) in
      keeps-if N k _ (after_exchange queues N own_of h k d rd _ b (last_below N (is_own_index queues h b 4)) ∷ []) ks
      (keeps-lifted N k (shares_moved k.shares d (last_below N (is_own_index queues h b 4))) _ m.0 m.1 refl, tt) is

  -- ---- any instruction

  follow-keeps : (d : Form) (i : Option Instr) (ks : List KnownState) → follow queues N own_of H h k d i ≡ Some ks → AllKeep N k ks
  follow-keeps d None ks is = keeps-is N k [] ks tt is
  follow-keeps d (Some (Lui rd upper)) ks is = keeps-result N k rd.number _ _ ks is
  follow-keeps d (Some (Auipc rd upper)) ks is = keeps-result N k rd.number _ _ ks is
  follow-keeps d (Some (Jal rd offset)) ks is = keeps-result N k rd.number _ _ ks is
  follow-keeps d (Some (Jalr rd rs1 offset)) ks is = keeps-jump rd.number offset _ ks is
  follow-keeps d (Some (Branch op rs1 rs2 offset)) ks is = keeps-is N k _ ks
      (keeps-branch N k (when_taken k op rs1 rs2) (when_passed k op rs1 rs2) _ _ _ (taken-shares k op rs1 rs2) (passed-shares k op rs1 rs2)) is
  follow-keeps d (Some (Load op rd rs1 offset)) ks is = keeps-loading op rd.number _ ks is
  follow-keeps d (Some (Store op rs1 rs2 offset)) ks is = keeps-storing d _ _ _ _ ks is
  follow-keeps d (Some (Immediate op rd rs1 n)) ks is = keeps-result N k rd.number _ _ ks is
  follow-keeps d (Some (Shift op rd rs1 amount)) ks is = keeps-result N k rd.number _ _ ks is
  follow-keeps d (Some (Register op rd rs1 rs2)) ks is = keeps-result N k rd.number _ _ ks is
  follow-keeps d (Some (Fence pred succ)) ks is = keeps-is N k _ ks (keeps-going N k k _ refl, tt) is
  follow-keeps d (Some FenceTso) ks is = keeps-is N k _ ks (keeps-going N k k _ refl, tt) is
  follow-keeps d (Some Ecall) ks is = keeps-is N k _ ks (keeps-same N k (called k) refl, tt) is
  follow-keeps d (Some Ebreak) ks is = keeps-is N k [] ks tt is
  follow-keeps d (Some (Amo op rd rs1 rs2 aq rl)) ks is = keeps-exchanging d op rd.number _ _ _ ks is

  module _ (fields : ℕ → List Field) where
    keeps-field : (op : LoadOp) (rd : ℕ) (look : Option ℕ) (f : Option Field) (ks : List KnownState) → AllKeep N k ks
        → AllKeep N k (after_field k op rd look f ks)
    keeps-field op rd (Some i) f ks keeps = keeps
    keeps-field op rd None None ks keeps = keeps
    keeps-field op rd None (Some f) ks keeps = by (keeps_numbers op f)
      where
        by : (b : Bool) → AllKeep N k (if b then with_result k rd (next_pc k.pc) (field_number f) ∷ [] else ks)
        by true = (keeps-same N k (with_result k rd (next_pc k.pc) (field_number f)) refl, tt)
        by false = keeps

    pub received-keeps : (d : Form) (i : Option Instr) (ts : List KnownState)
        → next_received queues fields N h k i (follow queues N own_of H h k d i) ≡ Some ts → AllKeep N k ts
    received-keeps d i ts is = by (follow queues N own_of H h k d i) refl is
      where
        from : (i : Option Instr) (ks ts : List KnownState) → AllKeep N k ks → next_received queues fields N h k i (Some ks) ≡ Some ts
            → AllKeep N k ts
        from (Some (Load op rd rs1 offset)) ks ts keeps is = keeps-is N k _ ts (keeps-field op rd.number _ _ ks keeps) is
        from i ks ts keeps is = keeps-is N k ks ts keeps is

        by : (next : Option (List KnownState)) → follow queues N own_of H h k d i ≡ next → next_received queues fields N h k i next ≡ Some ts
            → AllKeep N k ts
        by None found is = absurd (none-follows queues fields N own_of H h k i ts is)
        by (Some ks) found is = from i ks ts (follow-keeps d i ks found) is
