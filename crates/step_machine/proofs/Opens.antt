-- What an opening gives is fit, and is what the history of no entry says.
use Rattle.std.proofs.Common.{◌≡◌, ℕ, zero, suc, ◌+◌, ◌-◌, ◌≤◌, List, [], ◌∷◌, ◌++◌, length, drop, get_or, replicate, Option, Some, refl, sym, ◌∙◌, subst}
use Rattle.std.proofs.Common.{arith, length-append, length-drop}
use Rattle.std.specs.Prelude.{option_map}
use Rattle.std.proofs.lemmas.List.{length-map, length-replicate, drop-replicate}
use Rattle.std.proofs.lemmas.List.Elements.{All-map, All-nil, All-replicate}
use Rattle.std.proofs.lemmas.Option.{slice_get-map}
use Rattle.memory.specs.Words.{opened_words}
use Rattle.hart.specs.State.{HartView}
use Rattle.step_machine.specs.Names.{HartOpeningValue, OpeningValue, at_opening, FitsIn, opens_as, opened_hart, Config, Fit, beginning, opened_config}
use Rattle.step_machine.specs.Names.{view_state, HasAddress, InMemory, FitStored, opened_stored, StoresRepresent, Represents}
use Rattle.memory.specs.declared.writes.Write.{Write}

pub fit_stored : (M : ℕ) (first : List ℕ) (harts : ℕ) → length first ≤ M → FitStored M (opened_stored M first harts)
fit_stored M first harts few = record {
  words = count;
  first = count;
  pending = All-replicate (InMemory M) harts [] (All-nil (HasAddress M));
}
  where
    rest : (n : ℕ) → n ≤ M → n + length {A = ℕ} (drop n (replicate M 0)) ≡ M
    rest n le =
        let zeros : List ℕ = replicate M 0 in
        let left : length (drop n zeros) ≡ length zeros - n = length-drop n zeros in
        let all : length zeros ≡ M = length-replicate {A = ℕ} M 0 in
        omega arith

    count : length (opened_words M first) ≡ M
    count = length-append first (drop (length first) (replicate M 0)) ∙ rest (length first) few

pub fit_opened : (M : ℕ) (o : OpeningValue) → FitsIn M o → Fit M (opened_config M o)
fit_opened M o fits = record {
  buffers = length-replicate (length o.harts) [] ∙ sym (length-map o.harts (opened_hart M));
  harts = All-map (λ (v : HartView). v.state.words ≡ M) (opened_hart M) o.harts (λ k d lt. refl);
  firsts = All-map (λ (v : HartView). v.first.words ≡ M) (opened_hart M) o.harts (λ k d lt. refl);
  stored = fit_stored M o.words (length o.harts) fits.words;
}

pub fit_held : (M : ℕ) (o : OpeningValue) (c : Config) → FitsIn M o → c ≡ opened_config M o → Fit M c
fit_held M o c fits is = subst (Fit M) (sym is) (fit_opened M o fits)

view_opened : (M : ℕ) (so : Option HartOpeningValue) → option_map view_state (option_map (opened_hart M) so) ≡ option_map (opens_as M) so
view_opened M so = grind arith

first_opened : (M : ℕ) (so : Option HartOpeningValue) → option_map beginning (option_map (opened_hart M) so) ≡ option_map (opens_as M) so
first_opened M so = grind arith

reports_opened : (M : ℕ) (so : Option HartOpeningValue) (v : HartView) → option_map (opened_hart M) so ≡ Some v → v.reports ≡ []
reports_opened M so v is = grind arith

none_everywhere : (n h : ℕ) → get_or {A = List Write} (replicate n []) h [] ≡ []
none_everywhere (suc n) (suc h) = none_everywhere n h
none_everywhere x y = refl

zeros_everywhere : (m i : ℕ) → get_or {A = ℕ} (replicate m 0) i 0 ≡ 0
zeros_everywhere (suc m) (suc i) = zeros_everywhere m i
zeros_everywhere x y = refl

zeros_after : (xs : List ℕ) (m i : ℕ) → get_or (xs ++ replicate m 0) i 0 ≡ get_or xs i 0
zeros_after [] m i = zeros_everywhere m i
zeros_after (x ∷ xs) m zero = refl
zeros_after (x ∷ xs) m (suc i) = zeros_after xs m i

pub holds_opened : (M : ℕ) (o : OpeningValue) (harts : ℕ) → StoresRepresent M (at_opening o) (opened_stored M o.words harts)
holds_opened M o harts = grind (arith, none_everywhere, All-nil, drop-replicate, zeros_after)

pub tied_opened : (M : ℕ) (o : OpeningValue) → Represents M (at_opening o) (opened_config M o)
tied_opened M o = grind (arith, slice_get-map (opened_hart M) o.harts, view_opened M, first_opened M, reports_opened M, holds_opened M o (length o.harts))
