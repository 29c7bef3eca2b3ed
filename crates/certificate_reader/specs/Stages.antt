-- Which lines may come after which.
use Rattle.std.specs.Prelude.{ℕ, ◌+◌, ◌-◌, ◌==◌, nat_lt, ◌||◌, Bool, true, false, if◌then◌else◌, List, Option, Some, None, codes}
use Rattle.std.specs.Option.{option_or}
use Rattle.std.specs.Str.{bytes_eq}
use Rattle.certificate_reader.specs.declared.stages.Keyword.{Keyword}
use Rattle.certificate_reader.specs.declared.stages.Keyword.TheVariants as keyword
use Rattle.certificate_reader.specs.declared.stages.Stage.{Stage}
use Rattle.certificate_reader.specs.declared.stages.Stage.TheVariants as stage
use Rattle.certificate_reader.specs.declared.stages.TheConstants.{MAX_SPLITS}

-- ---- what a line begins with

abbrev pub part_keyword : List ℕ → Option Keyword
part_keyword name =
    if bytes_eq name (codes "hart") then Some keyword.Hart else
    (if bytes_eq name (codes "own") then Some keyword.Own else
    (if bytes_eq name (codes "open") then Some keyword.Open else None))

abbrev pub rank_keyword : List ℕ → Option Keyword
rank_keyword name =
    if bytes_eq name (codes "goes") then Some keyword.Goes else
    (if bytes_eq name (codes "lacks") then Some keyword.Lacks else
    (if bytes_eq name (codes "rank") then Some keyword.Rank else None))

abbrev pub state_keyword : List ℕ → Option Keyword
state_keyword name =
    if bytes_eq name (codes "state") then Some keyword.State else
    (if bytes_eq name (codes "most") then Some keyword.Most else
    (if bytes_eq name (codes "reg") then Some keyword.Register else
    (if bytes_eq name (codes "word") then Some keyword.Word else None)))

abbrev pub case_keyword : List ℕ → Option Keyword
case_keyword name =
    if bytes_eq name (codes "share") then Some keyword.Share else
    (if bytes_eq name (codes "split") then Some keyword.Split else
    (if bytes_eq name (codes "leaf") then Some keyword.Leaf else
    (if bytes_eq name (codes "to") then Some keyword.To else None)))

abbrev pub queue_keyword : List ℕ → Option Keyword
queue_keyword name =
    if bytes_eq name (codes "queue") then Some keyword.Queue else
    (if bytes_eq name (codes "field") then Some keyword.Field else
    (if bytes_eq name (codes "tagged") then Some keyword.Tagged else
    (if bytes_eq name (codes "filled") then Some keyword.Filled else None)))

unfoldable pub keyword_named : List ℕ → Option Keyword
keyword_named name =
    option_or (option_or (option_or (option_or (part_keyword name) (state_keyword name)) (case_keyword name)) (queue_keyword name)) (rank_keyword name)

-- ---- how far a text has come

abbrev pub is_queues : Stage → Bool
is_queues stage.Queues = true
is_queues other = false

-- no hart has come: a queue with tags may come, and a hart
abbrev pub lists_queues : Stage → Bool
lists_queues stage.Queues = true
lists_queues stage.Tagged = true
lists_queues other = false

abbrev pub is_hart : Stage → Bool
is_hart stage.Hart = true
is_hart other = false

abbrev pub is_owned : Stage → Bool
is_owned stage.Owned = true
is_owned other = false

-- how a hart opens has come, and what its ranks are for, and no state of it
abbrev pub is_opened : Stage → Bool
is_opened stage.Opened = true
is_opened other = false

-- a hart's part may end here, and a state begin
abbrev pub may_end : Stage → Bool
may_end stage.Opened = true
may_end (stage.Leaf n) = n == 0
may_end other = false

abbrev pub is_state : Stage → Bool
is_state stage.State = true
is_state other = false

abbrev pub is_described : Stage → Bool
is_described stage.State = true
is_described stage.Known = true
is_described other = false

-- how many cases the state wants
abbrev pub wanted : Stage → ℕ
wanted stage.State = 1
wanted stage.Known = 1
wanted (stage.Split n) = n
wanted (stage.Leaf n) = n
wanted other = 0

-- A split wants two cases in the place of one. A state wants at most one case more than it has splits, whose limit is met first
abbrev pub after_split : Stage → Option Stage
after_split s = if (wanted s == 0) || nat_lt MAX_SPLITS (wanted s - 1) then None else Some (stage.Split (wanted s + 1))

abbrev pub after_leaf : Stage → Option Stage
after_leaf s = if wanted s == 0 then None else Some (stage.Leaf (wanted s - 1))

abbrev pub after_arrow : Stage → Option Stage
after_arrow (stage.Leaf n) = Some (stage.Leaf n)
after_arrow other = None

abbrev pub where_it : Bool → Stage → Option Stage
where_it b s = if b then Some s else None

-- how far it has come after a line that begins so, where such a line may come
unfoldable pub stage_after : Stage → Keyword → Option Stage
stage_after s keyword.Queue = where_it (is_queues s) stage.Queues
stage_after s keyword.Field = where_it (is_queues s) stage.Queues
stage_after s keyword.Tagged = where_it (lists_queues s) stage.Tagged
stage_after s keyword.Hart = where_it (lists_queues s || may_end s) stage.Hart
stage_after s keyword.Own = where_it (is_hart s) stage.Owned
stage_after s keyword.Open = where_it (is_hart s || is_owned s) stage.Opened
stage_after s keyword.Goes = where_it (is_opened s) stage.Opened
stage_after s keyword.Lacks = where_it (is_opened s) stage.Opened
stage_after s keyword.State = where_it (may_end s) stage.State
stage_after s keyword.Most = where_it (is_state s) stage.Known
stage_after s keyword.Register = where_it (is_described s) stage.Known
stage_after s keyword.Word = where_it (is_described s) stage.Known
stage_after s keyword.Share = where_it (is_described s) stage.Known
stage_after s keyword.Filled = where_it (is_described s) stage.Known
stage_after s keyword.Rank = where_it (is_described s) stage.Known
stage_after s keyword.Split = after_split s
stage_after s keyword.Leaf = after_leaf s
stage_after s keyword.To = after_arrow s
