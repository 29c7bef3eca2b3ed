-- The lines of a sender that all rings have alike, over its code: it asks for the next word of its list.
use Rattle.std.proofs.Common.{ℕ, suc, ◌*◌, ◌<◌, ◌≤◌, ◌≡◌, ◌==◌, Bool, false, if◌then◌else◌, List, [], ◌∷◌, length, drop, Some, None, sym, ◌∙◌, ap, subst, arith}
use Rattle.std.proofs.Common.{drop-cons}
use Rattle.std.specs.Prelude.{slice_index, map}
use Rattle.std.proofs.Math.ListN.{drop_of_length-le}
use Rattle.std.proofs.lemmas.Bool.Decides.{nat_tests}
use Rattle.rv_decode.specs.declared.instruction.Instr.TheVariants.{Ecall}
use Rattle.hart.specs.State.{HartState}
use Rattle.hart.specs.declared.status.Status.TheVariants as status
use Rattle.hart.specs.declared.need.Need.TheVariants as need
use Rattle.hart.proofs.Instructions.{IsAt, next_need, next_after}
use Rattle.poll_close.specs.{SenderRegisters, SenderConstants, file, running, AllMean}
use Rattle.step_machine.proofs.Lines.{Line}
use Rattle.rv_decode.specs.Meaning.{meaning}
use Rattle.rv_decode.specs.declared.instruction.Instr.{Instr}
use Rattle.rv_decode.proofs.Meanings.{meaning_iff}

module _ (code : List ℕ) (long : 2 < length code) (f : SenderConstants) (r : SenderRegisters) where
  -- a pc inside the code leaves it running
  abbrev settles : ℕ → SenderRegisters → List ℕ → Bool → HartState
  settles pc q inbox over = record {
    code = code;
    words = f.words;
    registers = file f q;
    pc = pc;
    inbox = inbox;
    status = if over then status.Ended else status.Running;
  }

  inside_8 : (8 == 4 * length code) ≡ false
  inside_8 = grind (arith, nat_tests)

  -- ecall: the next word of its list, or none
  pub line_04-word : ((inbox : List ℕ) → IsAt (running code f 0x04 r inbox) Ecall) → r.x17 ≡ 1
      → (list : List ℕ) (g : ℕ) → g < length list
      → Line (running code f 0x04 r (drop g list)) (need.Next (Some (slice_index list g)))
      (λ v. running code f 0x08 (record r { x10 = slice_index list g; x11 = 1 }) (drop (suc g) list))
  line_04-word at call list g less =
      let w : ℕ = slice_index list g in
      let line : Line (running code f 0x04 r (w ∷ drop (suc g) list)) (need.Next (Some w))
      (λ v. running code f 0x08 (record r { x10 = w; x11 = 1 }) (drop (suc g) list)) =
      record {
        needs = next_need (at (w ∷ drop (suc g) list)) call;
        leaves = λ v. next_after (at (w ∷ drop (suc g) list)) call v
            ∙ ap (settles 0x08 (record r { x10 = w; x11 = 1 }) (drop (suc g) list)) inside_8;
      } in
      subst (λ (inbox : List ℕ). Line (running code f 0x04 r inbox) (need.Next (Some w))
      (λ v. running code f 0x08 (record r { x10 = w; x11 = 1 }) (drop (suc g) list)))
      (sym (drop-cons list g 0 less)) line

  pub line_04-none : ((inbox : List ℕ) → IsAt (running code f 0x04 r inbox) Ecall) → r.x17 ≡ 1
      → (list : List ℕ) (g : ℕ) → length list ≤ g
      → Line (running code f 0x04 r (drop g list)) (need.Next None)
      (λ v. running code f 0x08 (record r { x11 = 0 }) (drop g list))
  line_04-none at call list g all =
      let line : Line (running code f 0x04 r []) (need.Next None)
      (λ v. running code f 0x08 (record r { x11 = 0 }) []) =
      record {
        needs = next_need (at []) call;
        leaves = λ v. next_after (at []) call v ∙ ap (settles 0x08 (record r { x11 = 0 }) []) inside_8;
      } in
      subst (λ (inbox : List ℕ).
      Line (running code f 0x04 r inbox) (need.Next None) (λ v. running code f 0x08 (record r { x11 = 0 }) inbox))
      (sym (drop_of_length-le list all)) line

-- ---- a table means a listing where the decoder finds its lines

pub all_mean : (ws : List ℕ) (is : List Instr) → map meaning ws ≡ map Some is → AllMean ws is
all_mean [] [] e = tt
all_mean (w ∷ ws) (i ∷ is) e = grind (arith, meaning_iff, all_mean ws is)
all_mean x y e = cc
