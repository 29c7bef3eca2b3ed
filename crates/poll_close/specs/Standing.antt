-- A channel's history, whatever ran: where it opened, and that the ring's meaning holds of it.
use Rattle.std.specs.Prelude.{ℕ, ◌≡◌, List, drop, map}
use Rattle.step_machine.specs.History.{HartOpeningValue, OpeningValue, History}
use Rattle.step_machine.specs.Legal.{WellFormed}
use Rattle.poll_close.specs.Layout.{Layout}
use Rattle.poll_close.specs.Laws.{Ring, opening_over, Meaning, AcceptedAt}

-- the lists that an opening's senders were given
abbrev pub opening_lists : OpeningValue → List (List ℕ)
opening_lists o = map (λ (h : HartOpeningValue). h.inbox) (drop 1 o.harts)

-- the opening of a channel over accepted lists, of some layout
pub record IsOpeningOf (ring : Ring) (M : ℕ) (o : OpeningValue) : Type 0 where
  pub lists : List (List ℕ)
  pub layout : Layout
  pub accepted : AcceptedAt ring M lists layout
  pub opening : o ≡ opening_over ring lists layout

pub record Stands (ring : Ring) (means : Meaning) (B M : ℕ) (t : History) : Type 0 where
  pub opens : IsOpeningOf ring M t.opening
  pub kept : WellFormed B M t
  pub meant : means B M opens.lists opens.layout t
