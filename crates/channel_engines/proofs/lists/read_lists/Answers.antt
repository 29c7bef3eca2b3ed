use Rattle.std.proofs.Common.{ℕ, map}
use Rattle.std.specs.Global.{Vec}
use Rattle.std.specs.String.{string_bytes}
use Rattle.engine_support.proofs.TextInputs.{judged_read}
use Rattle.channel_engines.specs.Lists.{SaysLists, lists_at}
use Rattle.channel_engines.proofs.ListTexts.{lists_found}
use Rattle.channel_engines.proofs.lists.read_lists.Goals as goal

pub returns : goal.returns
returns g c =
    let text = string_bytes c.in_ok-text.text in
    judged_read SaysLists lists_at (λ (lists : Vec (Vec ℕ)). map (λ (list : Vec ℕ). list.items) lists.items) _ text c.lists_of_text.result
    c.in_ok-text.ensures.text (lists_found text) (rw c.as_bytes.ensures.value at c.lists_of_text.ensures)
