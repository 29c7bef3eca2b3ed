-- A machine that is put back holds what its opening gives.
use Rattle.std.proofs.Common.{arith, ◌≡◌, ℕ, suc, ◌≤◌, List, [], ◌∷◌, length, get_or, Option, Some, refl, sym, ◌∙◌}
use Rattle.std.specs.Prelude.{map, option_map}
use Rattle.std.specs.List.{slice_get}
use Rattle.std.proofs.lemmas.List.{length-map}
use Rattle.std.proofs.lemmas.List.Elements.{All-nil, All-map}
use Rattle.std.proofs.lemmas.Option.{slice_get-map}
use Rattle.memory.specs.Writes.{WritesInWord}
use Rattle.hart.specs.{HartView, restarted}
use Rattle.step_machine.specs.Names.{Entry, OpeningValue, History, at_opening, Stored, HasAddress, InMemory, FitStored, no_stores, restarted_stored, Config}
use Rattle.step_machine.specs.Names.{Fit, beginning, restarted_config, view_state, StoresRepresent, Represents, IsMachineAt}
use Rattle.step_machine.proofs.Opens.{holds_opened}
use Rattle.step_machine.proofs.Running.{kept-at_opening}
use Rattle.memory.specs.declared.writes.Write.{Write}

no_stores-anywhere : (bs : List (List Write)) (h : ℕ) → get_or (map no_stores bs) h [] ≡ []
no_stores-anywhere (ps ∷ bs) (suc h) = no_stores-anywhere bs h
no_stores-anywhere x y = refl

state_again : (so : Option HartView) → option_map view_state (option_map restarted so) ≡ option_map beginning so
state_again so = grind arith

first_again : (so : Option HartView) → option_map beginning (option_map restarted so) ≡ option_map beginning so
first_again so = grind arith

none_reported : (so : Option HartView) (v : HartView) → option_map restarted so ≡ Some v → v.reports ≡ []
none_reported so v is = grind arith

roomy_again : (n : ℕ) (so : Option HartView) (v : HartView) → option_map restarted so ≡ Some v → ((w : HartView) → so ≡ Some w → n ≤ w.room) → n ≤ v.room
roomy_again n so v is all = grind arith

pub fit_put_back : (M : ℕ) (s : Stored) → FitStored M s → FitStored M (restarted_stored s)
fit_put_back M s fit = record {
  words = fit.first;
  first = fit.first;
  pending = All-map (InMemory M) no_stores s.buffers (λ h d within. All-nil (HasAddress M));
}

pub fit_restarted : (M : ℕ) (c : Config) → Fit M c → Fit M (restarted_config c)
fit_restarted M c fit = record {
  buffers = length-map c.stored.buffers no_stores ∙ fit.buffers ∙ sym (length-map c.harts restarted);
  harts = All-map (λ (v : HartView). v.state.words ≡ M) restarted c.harts fit.firsts;
  firsts = All-map (λ (v : HartView). v.first.words ≡ M) restarted c.harts fit.firsts;
  stored = fit_put_back M c.stored fit.stored;
}

pub holds_restarted : (M : ℕ) (t : History) (s : Stored) → StoresRepresent M t s → StoresRepresent M (at_opening t.opening) (restarted_stored s)
holds_restarted M t s holds = grind (arith, no_stores-anywhere s.buffers, All-nil WritesInWord, holds_opened M t.opening (length s.buffers))

pub tied_restarted : (M : ℕ) (t : History) (c : Config) → Represents M t c → Represents M (at_opening t.opening) (restarted_config c)
tied_restarted M t c tied = grind (arith, slice_get-map restarted c.harts, state_again, first_again, none_reported, holds_restarted M t c.stored tied.holds)

pub sound_restarted : (B M n : ℕ) (t : History) (c : Config) → IsMachineAt B M t c n → IsMachineAt B M (at_opening t.opening) (restarted_config c) n
sound_restarted B M n t c sound = record {
  fits = sound.fits;
  kept = kept-at_opening B M t.opening;
  tied = tied_restarted M t c sound.tied;
  fit = fit_restarted M c sound.fit;
  count = length-map c.harts restarted ∙ sound.count;
  room = λ h v is. roomy_again n (slice_get c.harts h) v (sym (slice_get-map restarted c.harts h) ∙ is) (sound.room h);
}

-- the same of what the machine then holds
pub sound_put_back : (B M n : ℕ) (o : OpeningValue) (es none : List Entry) (c d : Config)
    → IsMachineAt B M (record { opening = o; entries = es }) c n → none ≡ [] → d ≡ restarted_config c
    → IsMachineAt B M (record { opening = o; entries = none }) d n
sound_put_back B M n o es none c d sound is_none is = grind (arith, sound_restarted B M n (record { opening = o; entries = es }) c sound)
