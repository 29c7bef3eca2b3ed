-- What a receiver's load of a field comes to: one of the field's numbers.
use Rattle.std.proofs.Common.{ℕ, ℤ, zero, suc, ◌+◌, ◌*◌, ◌%◌, ◌^◌, ◌<◌, ◌≤◌, ◌≡◌, ◌==◌, ◌&&◌, if◌then◌else◌, Bool, true, false, Option, Some, None, List, []}
use Rattle.std.proofs.Common.{◌∷◌, length, get_or, refl, sym, ◌∙◌, ap, subst, arith}
use Rattle.std.specs.Prelude.{All}
use Rattle.std.proofs.lemmas.Bool.{and_parts, eqb-true, ltb-true}
use Rattle.std.proofs.lemmas.List.Elements.{All-head, All-tail}
use Rattle.std.proofs.lemmas.Nat.{mul-le}
use Rattle.std.proofs.Math.Nat.{mod-eq_of_lt}
use Rattle.rv_decode.specs.declared.instruction.Reg.{Reg}
use Rattle.rv_decode.specs.declared.instruction.LoadOp.{LoadOp}
use Rattle.rv_decode.specs.declared.instruction.LoadOp.TheVariants as load_op
use Rattle.rv_decode.specs.declared.instruction.Instr.{Instr}
use Rattle.rv_decode.specs.declared.instruction.Instr.TheVariants.{Load}
use Rattle.hart.specs.{HartState, advanced, register_value, next_pc, address, extended, load_width}
use Rattle.hart.proofs.Instructions.{IsAt}
use Rattle.step_machine.specs.declared.events.Entry.{Entry}
use Rattle.step_machine.specs.Names.{OpeningValue, access_of, number_read}
use Rattle.slot_queue.specs.Queues.{Queue, IsQueue, TellsFull, slot_of}
use Rattle.queue_parties.specs.Parties.{the_receiver}
use Rattle.queue_certificates.specs.{OwnWord, View, AllCounts, number_seen, ActsByCounts, Field, MeetsField, Form, KnownValue, linear}
use Rattle.queue_certificates.specs.{no_share, KnownState, Has, MeansAt, last_below, position_at, offset_at, is_owned}
use Rattle.queue_certificates.specs.{with_result, address_value, addresses, is_look, may_load, after_load, follow, instruction_at, last_number, field_number}
use Rattle.queue_certificates.specs.{keeps_numbers, field_there, field_or, field_in, field_below, after_field, next_received}
use Rattle.queue_certificates.proofs.Results.{Gives}
use Rattle.queue_certificates.proofs.Stores.{placed-at}
use Rattle.queue_certificates.proofs.Steps.{sign-low, Goes, nobody_told, nothing_sent}
use Rattle.queue_certificates.proofs.NextAccess.{found-at}
use Rattle.queue_certificates.proofs.Steps as steps

found-there : (P : Field → Type 0) (fs : List Field) (at width : ℕ) (f : Field) → All P fs → field_there fs at width ≡ Some f
    → P f × (f.at ≡ at) × (f.width ≡ width)
found-there P [] at width f all is = absurd (cc)
found-there P (g ∷ fs) at width f all is =
    by ((g.at == at) && (g.width == width)) refl (found-there P fs at width f (All-tail P g fs all)) is
  where
    by : (t : Bool) → ((g.at == at) && (g.width == width)) ≡ t
        → (field_there fs at width ≡ Some f → P f × (f.at ≡ at) × (f.width ≡ width))
        → (if t then Some g else field_there fs at width) ≡ Some f → P f × (f.at ≡ at) × (f.width ≡ width)
    by false other later is = later is
    by true here later is =
        let parts = and_parts (g.at == at) (g.width == width) here in
        subst (λ h. P h × (h.at ≡ at) × (h.width ≡ width)) (let same : g ≡ f = cc in same)
        (All-head P g fs all, eqb-true g.at at parts.0, eqb-true g.width width parts.1)

-- the number of these bytes is one of the field's
abbrev ReadsField : View → Field → (a width : ℕ) → Type 0
ReadsField m f a width = (j : ℕ) × (j ≤ f.count) × (number_seen m a width ≡ f.low + f.step * j)

kept-number : (op : LoadOp) (f : Field) (v : ℕ) → keeps_numbers op f ≡ true → v ≤ last_number f → extended op v ≡ v
kept-number load_op.Byte f v ok low = let small : last_number f < 2 ^ 7 = ltb-true (last_number f) (2 ^ 7) ok in
    sign-low 8 v (omega (arith, small, low))
kept-number load_op.Half f v ok low = let small : last_number f < 2 ^ 15 = ltb-true (last_number f) (2 ^ 15) ok in
    sign-low 16 v (omega (arith, small, low))
kept-number other f v ok low = refl

load-small : (op : LoadOp) (v : ℕ) → v < 256 ^ load_width op → v < 2 ^ 32
load-small load_op.Byte v small = omega (arith, small)
load-small load_op.Half v small = omega (arith, small)
load-small load_op.Word v small = omega (arith, small)
load-small load_op.ByteUnsigned v small = omega (arith, small)
load-small load_op.HalfUnsigned v small = omega (arith, small)

pub none-follows : (queues : ℕ → Queue) (fields : ℕ → List Field) (N : ℕ) (own_of : ℕ → List OwnWord) (H h : ℕ) (k : KnownState) (i : Option Instr)
    (ks : List KnownState) → next_received queues fields N h k i None ≡ Some ks → ⊥
none-follows queues fields N own_of H h k None ks is = absurd (cc)
none-follows queues fields N own_of H h k (Some (Load op rd rs1 offset)) ks is = absurd (cc)
none-follows queues fields N own_of H h k i ks is = absurd (cc)

module _ (M : ℕ) (o : OpeningValue) (queues : ℕ → Queue) (N : ℕ) (own_of : ℕ → List OwnWord) (H h : ℕ) (xs : List ℕ)
    (k : KnownState) (s : HartState) (m : View) (cs : AllCounts) (e : Entry)
    (acts : ActsByCounts M o N queues nobody_told nothing_sent h s m cs e) (size : 32 ≤ length s.registers)
    (fine : (i : ℕ) → i < N → IsQueue (queues i) × TellsFull (queues i) × ((queues i).index_width ≤ 4))
    (means : MeansAt queues N (own_of h) h xs k s m cs) (fields : ℕ → List Field)
    (got : (i : ℕ) → i < N → h ≡ (queues i).receiver → (p : ℕ) → (cs i).taken ≤ p → p < (cs i).known_published
    → All (MeetsField (queues i) p m) (fields i)) where
  abbrev owns : ℕ → Bool
  owns = steps.owns M o queues N own_of H h xs k s m cs e acts size fine means

  reads-in : (place : KnownValue) (a width i : ℕ) → i < N → Has queues xs place a → (f : Field)
      → field_in queues fields h k place width i ≡ Some f → ReadsField m f a width
  reads-in (linear g) a width i less at f is =
      by (((queues i).receiver == h) && is_owned k.ranges (queues i) (get_or k.shares i no_share) (linear g) width) refl is
    where
      by : (t : Bool) → (((queues i).receiver == h) && is_owned k.ranges (queues i) (get_or k.shares i no_share) (linear g) width) ≡ t
          → (if t then field_there (fields i) (offset_at (queues i) g.constant) width else None) ≡ Some f → ReadsField m f a width
      by false other is = absurd (cc)
      by true ok is =
          let parts = and_parts ((queues i).receiver == h) (is_owned k.ranges (queues i) (get_or k.shares i no_share) (linear g) width) ok in
          let mine : h ≡ (queues i).receiver = sym (eqb-true (queues i).receiver h parts.0) in
          let there = placed-at (queues i) (fine i less).0 the_receiver (cs i) xs (get_or k.shares i no_share) (means.shares i less the_receiver mine)
          queues k.ranges means.ranges g a width at parts.1 in
          let p : ℕ = (cs i).taken + position_at (queues i) (get_or k.shares i no_share).own.constant g.constant in
          let found = found-there
          (MeetsField (queues i) ((cs i).taken + position_at (queues i) (get_or k.shares i no_share).own.constant g.constant) m) (fields i)
          (offset_at (queues i) g.constant) width f
          (got i less mine ((cs i).taken + position_at (queues i) (get_or k.shares i no_share).own.constant g.constant) (omega arith) there.before) is in (
            found.0.0,
            found.0.1,
            ap (λ n. number_seen m n width) (there.place ∙ ap (λ n. slot_of (queues i) ((cs i).taken + position_at (queues i)
                (get_or k.shares i no_share).own.constant g.constant) + n) (sym found.1))
                ∙ ap (λ n. number_seen m (slot_of (queues i) ((cs i).taken + position_at (queues i)
                (get_or k.shares i no_share).own.constant g.constant) + f.at) n) (sym found.2) ∙ found.0.2,
          )
  reads-in other a width i less at f is = absurd (cc)

  reads-below : (place : KnownValue) (a width n : ℕ) → n ≤ N → Has queues xs place a → (f : Field)
      → field_below queues fields h k place width n ≡ Some f → ReadsField m f a width
  reads-below place a width zero low at f is = absurd (cc)
  reads-below place a width (suc n) low at f is =
      by (field_in queues fields h k place width n) refl (reads-below place a width n (omega (arith, low)) at f) is
    where
      by : (g : Option Field) → field_in queues fields h k place width n ≡ g
          → (field_below queues fields h k place width n ≡ Some f → ReadsField m f a width)
          → field_or g (field_below queues fields h k place width n) ≡ Some f → ReadsField m f a width
      by None none lower is = lower is
      by (Some g) found lower is = reads-in place a width n (omega (arith, low)) at f (found ∙ is)

  field-gives : (op : LoadOp) (f : Field) (a : ℕ) → number_read e ≡ number_seen m a (load_width op) → keeps_numbers op f ≡ true
      → ReadsField m f a (load_width op) → Gives queues xs (field_number f) (extended op (number_read e))
  field-gives op f a read ok r =
      let is : number_read e ≡ f.low + f.step * r.0 = read ∙ r.2 in
      let upto : f.step * r.0 ≤ f.step * f.count = mul-le f.step r.0 f.step f.count (omega arith) r.1 in
      let small : number_read e < 2 ^ 32 = load-small op (number_read e)
      (steps.read-small M o queues N own_of H h xs k s m cs e acts size fine means op a read) in (
        r.0,
        r.1,
        kept-number op f (number_read e) ok (omega (arith, is, upto)) ∙ sym (mod-eq_of_lt small)
            ∙ ap (λ n. n % 2 ^ 32) (let sum : number_read e ≡ f.low + (f.step * r.0 + 0) = omega (arith, is) in sum),
      )

  load-goes : (past : (g : ℕ) → H ≤ g → length (own_of g) ≡ 0) (d : Form) (op : LoadOp) (rd rs1 : Reg) (offset : ℤ) (ks : List KnownState)
      → instruction_at s.code k.pc ≡ Some (Load op rd rs1 offset) → follow queues N own_of H h k d (Some (Load op rd rs1 offset)) ≡ Some ks
      → (ts : List KnownState)
      → next_received queues fields N h k (Some (Load op rd rs1 offset)) (Some ks) ≡ Some ts
      → Goes queues N own_of h owns xs ts m cs (access_of e) (advanced s (number_read e))
  load-goes past d op rd rs1 offset ks at found ts is =
      by (last_below N (is_look queues h (addresses queues k rs1 offset) (load_width op))) refl
      (field_below queues fields h k (address_value queues k rs1 offset) (load_width op) N) refl found
      (let same : after_field k op rd.number
      (last_below N (is_look queues h (addresses queues k rs1 offset) (load_width op)))
      (field_below queues fields h k (address_value queues k rs1 offset) (load_width op) N) ks ≡ ts = cc in same)
    where
      as-known : ks ≡ ts → Goes queues N own_of h owns xs ts m cs (access_of e) (advanced s (number_read e))
      as-known same = subst (λ us. Goes queues N own_of h owns xs us m cs (access_of e) (advanced s (number_read e))) same
          (steps.state-goes M o queues N own_of H h xs k s m cs e acts size fine means past d ks
          (ap (follow queues N own_of H h k d) at ∙ found))

      here : IsAt s (Load op rd rs1 offset)
      here = found-at s e acts.can (Load op rd rs1 offset) (ap (instruction_at s.code) means.pc ∙ at)

      by : (look : Option ℕ)
          → last_below N (is_look queues h (addresses queues k rs1 offset) (load_width op)) ≡ look → (f : Option Field)
          → field_below queues fields h k (address_value queues k rs1 offset) (load_width op) N ≡ f
          → (if may_load queues N h k (addresses queues k rs1 offset) (load_width op) look
          then Some (after_load queues N own_of h k op rd.number (addresses queues k rs1 offset) look ∷ []) else None) ≡ Some ks
          → after_field k op rd.number look f ks ≡ ts
          → Goes queues N own_of h owns xs ts m cs (access_of e) (advanced s (number_read e))
      by (Some i) look f field found is = as-known is
      by None look None field found is = as-known is
      by None look (Some f) field found is = kept (keeps_numbers op f) refl is
        where
          kept : (t : Bool) → keeps_numbers op f ≡ t
              → (if t then with_result k rd.number (next_pc k.pc) (field_number f) ∷ [] else ks) ≡ ts
              → Goes queues N own_of h owns xs ts m cs (access_of e) (advanced s (number_read e))
          kept false wide is = as-known is
          kept true narrow is = subst (λ us. Goes queues N own_of h owns xs us m cs (access_of e) (advanced s (number_read e))) is
              (steps.load-leads M o queues N own_of H h xs k s m cs e acts size fine means op rd rs1 offset
              (with_result k rd.number (next_pc k.pc) (field_number f)) here
              (λ z read pc regs. (let p = steps.points M o queues N own_of H h xs k s m cs e acts size fine means rs1 offset in
              steps.load-gives M o queues N own_of H h xs k s m cs e acts size fine means op rd (address (register_value s.registers rs1) offset)
              (addresses queues k rs1 offset) z p.0 p.1 (allowed _ refl found) (field_number f)
              (field-gives op f (address (register_value s.registers rs1) offset) read narrow
              (reads-below (address_value queues k rs1 offset) (address (register_value s.registers rs1) offset) (load_width op) N
              (omega arith) (steps.address-has M o queues N own_of H h xs k s m cs e acts size fine means rs1 offset) f field)) pc regs)))
            where
              allowed : (t : Bool) → may_load queues N h k (addresses queues k rs1 offset) (load_width op) None ≡ t
                  → (if t then Some (after_load queues N own_of h k op rd.number (addresses queues k rs1 offset) None ∷ []) else None) ≡ Some ks
                  → may_load queues N h k (addresses queues k rs1 offset) (load_width op) None ≡ true
              allowed true may found = may
              allowed false may found = absurd (cc)

  -- the states that may follow, with what is received
  pub next-goes : (past : (g : ℕ) → H ≤ g → length (own_of g) ≡ 0) (d : Form) (ts : List KnownState)
      → next_received queues fields N h k (instruction_at s.code k.pc) (follow queues N own_of H h k d (instruction_at s.code k.pc)) ≡ Some ts
      → Goes queues N own_of h owns xs ts m cs (access_of e) (advanced s (number_read e))
  next-goes past d ts is = by (instruction_at s.code k.pc) refl (follow queues N own_of H h k d (instruction_at s.code k.pc)) refl is
    where
      by : (i : Option Instr) → instruction_at s.code k.pc ≡ i → (next : Option (List KnownState))
          → follow queues N own_of H h k d (instruction_at s.code k.pc) ≡ next → next_received queues fields N h k i next ≡ Some ts
          → Goes queues N own_of h owns xs ts m cs (access_of e) (advanced s (number_read e))
      by i at None found is = absurd (none-follows queues fields N own_of H h k i ts is)
      by (Some (Load op rd rs1 offset)) at (Some ks) found is =
          load-goes past d op rd rs1 offset ks at (ap (follow queues N own_of H h k d) (sym at) ∙ found) ts is
      by i at (Some ks) found is = steps.state-goes M o queues N own_of H h xs k s m cs e acts size fine means past d ts (found ∙ is)
