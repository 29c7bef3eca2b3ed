-- The debugger's commands: which line asks for what.
use Rattle.std.specs.Prelude.{ℕ, if◌then◌else◌, List, [], ◌∷◌, Option, None, Some, option_map, option_and_then, codes}
use Rattle.std.specs.Str.{bytes_eq}
use Rattle.texts.specs.Cutting.{tokens}
use Rattle.texts.specs.Numbers.{number_of, word_of}
use Rattle.step_machine.specs.declared.events.Event.TheVariants.{Act, Land}
use Rattle.debugger.specs.declared.debug.command.Command.{Command}
use Rattle.debugger.specs.declared.debug.command.Command.TheVariants.{Step, Go, Give, Break, Hart, Pending, Word, Back, Count, Quit}

-- what a letter asks for by itself
abbrev pub command_alone : List ℕ → Option Command
command_alone name =
    if bytes_eq name (codes "s") then Some Step else
    (if bytes_eq name (codes "g") then Some Go else
    (if bytes_eq name (codes "t") then Some Count else
    (if bytes_eq name (codes "q") then Some Quit else None)))

-- What a letter asks for with a number. How far to go back is a number up to 2^32, and the other
-- numbers are below that.
abbrev pub command_with_one : (name number : List ℕ) → Option Command
command_with_one name number =
    if bytes_eq name (codes "a") then option_map (λ hart. Give (Act hart)) (word_of number) else
    (if bytes_eq name (codes "l") then option_map (λ hart. Give (Land hart)) (word_of number) else
    (if bytes_eq name (codes "r") then option_map Hart (word_of number) else
    (if bytes_eq name (codes "p") then option_map Pending (word_of number) else
    (if bytes_eq name (codes "w") then option_map Word (word_of number) else
    (if bytes_eq name (codes "u") then option_map Back (number_of number) else None)))))

-- what a letter asks for with two numbers
abbrev pub command_with_two : (name first second : List ℕ) → Option Command
command_with_two name first second =
    if bytes_eq name (codes "b") then option_and_then (λ hart. option_map (Break hart) (word_of second)) (word_of first) else None

-- what the words of a line ask for, if that is anything
abbrev pub command_in : List (List ℕ) → Option Command
command_in (name ∷ []) = command_alone name
command_in (name ∷ number ∷ []) = command_with_one name number
command_in (name ∷ first ∷ second ∷ []) = command_with_two name first second
command_in others = None

-- what a line asks for, without its end, if that is anything
abbrev pub command_of : (line : List ℕ) → Option Command
command_of line = command_in (tokens line)
