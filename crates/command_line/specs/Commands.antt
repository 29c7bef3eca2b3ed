-- The table of commands. Made by scripts/make-commands from docs/commands.tsv: change that.
use Rattle.std.specs.Prelude.{List, [], ◌∷◌, codes}
use Rattle.command_line.specs.Parameters.{CommandRow, Parameter, row, defaulted, flag, optional, positional, required}

abbrev file : Parameter
file = positional (codes "file")

abbrev schedule : Parameter
schedule = positional (codes "schedule")

abbrev buffer : Parameter
buffer = defaulted (codes "buffer") (codes "4")

abbrev seed : Parameter
seed = required (codes "seed")

abbrev runs : Parameter
runs = required (codes "runs")

abbrev length : Parameter
length = required (codes "length")

abbrev skip : Parameter
skip = defaulted (codes "skip") (codes "0")

abbrev draw : Parameter
draw = defaulted (codes "draw") (codes "uniform")

abbrev jobs : Parameter
jobs = defaulted (codes "jobs") (codes "1")

abbrev ring : Parameter
ring = positional (codes "ring")

abbrev base : Parameter
base = defaulted (codes "base") (codes "0")

abbrev stride : Parameter
stride = optional (codes "stride")

-- each command with its words and options
abbrev pub commands : List CommandRow
commands =
    row (codes "run") (file ∷ schedule ∷ buffer ∷ [])
    ∷ row (codes "replay") (file ∷ schedule ∷ buffer ∷ [])
    ∷ row (codes "move") (file ∷ schedule ∷ buffer ∷ [])
    ∷ row (codes "shrink") (file ∷ schedule ∷ buffer ∷ [])
    ∷ row (codes "chart") (file ∷ schedule ∷ buffer ∷ flag (codes "svg") ∷ flag (codes "memory") ∷ [])
    ∷ row (codes "show") (file ∷ buffer ∷ flag (codes "steps") ∷ [])
    ∷ row (codes "debug") (file ∷ schedule ∷ buffer ∷ [])
    ∷ row (codes "check") (file ∷ buffer ∷ [])
    ∷ row (codes "find") (file ∷ buffer ∷ defaulted (codes "states") (codes "1000000") ∷ [])
    ∷ row (codes "try") (file ∷ buffer ∷ seed ∷ runs ∷ length ∷ skip ∷ draw ∷ flag (codes "unfinished") ∷ jobs ∷ [])
    ∷ row (codes "threads") (file ∷ buffer ∷ defaulted (codes "turns") (codes "100000") ∷ [])
    ∷ row (codes "channel") (positional (codes "kind") ∷ ring ∷ schedule ∷ buffer ∷ base ∷ stride ∷ flag (codes "finish") ∷ optional (codes "sender")
    ∷ optional (codes "receiver") ∷ [])
    ∷ row (codes "ring") (positional (codes "sender") ∷ positional (codes "receiver") ∷ ring ∷ buffer ∷ seed ∷ runs ∷ length ∷ skip ∷ draw ∷ jobs ∷ base
    ∷ stride ∷ [])
    ∷ row (codes "callers") (file ∷ buffer ∷ seed ∷ runs ∷ length ∷ skip ∷ draw ∷ jobs ∷ required (codes "slots") ∷ base
    ∷ defaulted (codes "sender") (codes "0") ∷ defaulted (codes "receiver") (codes "1") ∷ defaulted (codes "kind") (codes "lamport") ∷ [])
    ∷ row (codes "queue") (file ∷ buffer ∷ defaulted (codes "seed") (codes "1") ∷ defaulted (codes "runs") (codes "1000")
    ∷ defaulted (codes "length") (codes "1000") ∷ skip ∷ defaulted (codes "draw") (codes "bursts") ∷ jobs ∷ required (codes "certificate")
    ∷ optional (codes "written") ∷ optional (codes "read") ∷ optional (codes "once") ∷ flag (codes "harts") ∷ flag (codes "safety") ∷ [])
    ∷ row (codes "steps") (buffer ∷ [])
    ∷ row (codes "asm") []
    ∷ row (codes "dis") []
    ∷ []
