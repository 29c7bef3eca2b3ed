use Rattle.std.proofs.Common.{◌≡◌, ◌∙◌, ℕ, List, ◌++◌, false, inl, inr, Some, sym, ap, subst}
use Rattle.std.specs.Global.{Vec}
use Rattle.std.specs.List.{list_any, slice_get}
use Rattle.step_machine.specs.Positions.{packed}
use Rattle.states.proofs.NumberLaws.{has_items, next_is, number_within, words-there}
use Rattle.states.proofs.numbered.States.number.Goals as goal

-- the words of a position
abbrev says : Vec ℕ → List ℕ
says position = position.items

pub returns-in-Some-clause-numbered : goal.returns-in-Some-clause-numbered
returns-in-Some-clause-numbered g c =
    let words = packed c.args.machine.now in
    let draft = c.as_slice.ensures.value ∙ c.in_ok-pack.ensures.words ∙ ap (λ (ws : List ℕ). ws ++ words) c.clear.ensures.items in
    let there = words-there says c.self.inside.positions.keys c.pack.new.out c.as_slice.result.now words c.in-Some.number c.in-Some.ensures.index
    (λ key is. ◌∙◌ {A = List ℕ} (sym is) draft) in
    inl (record {
      known = subst (λ (ps : List (List ℕ)). slice_get ps c.in-Some.number ≡ Some words) c.self.view_is there;
      kept = c.self.view_is;
    })

pub returns-clause-numbered : goal.returns-clause-numbered
returns-clause-numbered g c =
    let words = packed c.args.machine.now in
    let keys = c.self.inside.positions.keys in
    let position = c.in_ok-position.position in
    let draft : position.items ≡ c.as_slice.result.now = c.in_ok-position.ensures.items ∙ c.deref.ensures.value ∙ sym c.as_slice.ensures.value in
    let its : position.items ≡ words = draft ∙ c.as_slice.ensures.value ∙ c.in_ok-pack.ensures.words
    ∙ ap (λ (ws : List ℕ). ws ++ words) c.clear.ensures.items in
    inr (next_is says keys c.insert.new.self.keys position c.args.self.now words c.len-number.result c.self.view_is (λ i key within is. its ∙ sym is) its
    (subst (λ (ws : List ℕ). false ≡ list_any (has_items ws) keys) (sym draft) c.in_default.ensures.found)
    c.in_ok-insert.ensures.keys c.len-number.ensures.len)

pub returns-clause-within : goal.returns-clause-within
returns-clause-within g c =
    number_within c.args.self.now _ (packed c.args.machine.now) c.len-number.result (returns-clause-numbered g c)
