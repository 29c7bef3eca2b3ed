-- What the ranks of a hart's states are for, as lines say it.
use Rattle.std.specs.Prelude.{ℕ, List, [], ◌∷◌, Result, Ok, Err, if◌then◌else◌, codes}
use Rattle.std.specs.Str.{bytes_eq}
use Rattle.texts.specs.Numbers.{word_of}
use Rattle.texts.specs.Results.{◌>>=◌}
use Rattle.texts.specs.Formats.{each}
use Rattle.queue_certificates.specs.declared.goal.Goal.{Goal}
use Rattle.queue_certificates.specs.declared.goal.Goal.TheVariants as goal
use Rattle.certificate_reader.specs.declared.faults.CertificateFault.{CertificateFault}
use Rattle.certificate_reader.specs.declared.faults.CertificateFault.TheVariants.{BadLine}
use Rattle.certificate_reader.specs.declared.limits.TheConstants.{MAX_GOALS}
use Rattle.certificate_reader.specs.Faults.{or_bad_line}
use Rattle.certificate_reader.specs.Numbers.{first_count_in, first_word_in, ended}
use Rattle.certificate_reader.specs.Lists.{one_more}

-- the count that is all of the words
unfoldable pub only_count : List (List ℕ) → Result ℕ CertificateFault
only_count words = do
  a ← first_count_in words
  over ← ended a.1
  Ok a.0

-- of a queue: with a count it has indices
abbrev pub goal_for : (queue : ℕ) → List (List ℕ) → Result Goal CertificateFault
goal_for queue [] = Ok (goal.Tags queue)
goal_for queue (word ∷ others) = do
  owned ← only_count (word ∷ others)
  Ok (goal.Queue queue owned)

unfoldable pub goal_of_queue : List (List ℕ) → Result Goal CertificateFault
goal_of_queue words = do
  queue ← first_word_in words
  goal_for queue.0 queue.1

unfoldable pub goal_together : List (List ℕ) → Result Goal CertificateFault
goal_together words = do
  owned ← only_count words
  Ok (goal.Together owned)

-- `-` in place of a queue, for all queues with indices together
abbrev pub goal_in : List (List ℕ) → Result Goal CertificateFault
goal_in [] = Err BadLine
goal_in (word ∷ words) = if bytes_eq word (codes "-") then goal_together words else goal_of_queue (word ∷ words)

unfoldable pub with_goal : List Goal → List (List ℕ) → Result (List Goal) CertificateFault
with_goal goals words = do
  goal ← goal_in words
  one_more MAX_GOALS goals goal

-- ---- queues that a hart may lack

unfoldable pub words_in : List (List ℕ) → Result (List ℕ) CertificateFault
words_in words = each (λ word. or_bad_line (word_of word)) words

unfoldable pub with_lacking : List (List ℕ) → List (List ℕ) → Result (List (List ℕ)) CertificateFault
with_lacking lacking words = do
  queues ← words_in words
  one_more MAX_GOALS lacking queues
