-- The leaves of a hart's states, one after the other: what is known where an instruction is executed.
use Rattle.std.specs.Prelude.{ℕ, zero, suc, if◌then◌else◌, Bool, Option, Some, List, length, get_or}
use Rattle.queue_certificates.specs.Forms.{Form}
use Rattle.queue_certificates.specs.States.{KnownState}
use Rattle.queue_certificates.specs.Cases.{Arrow, Cases, leaf, split, with_low, with_high, may_exceed, each_leaf}
use Rattle.queue_certificates.specs.Certificates.{QueueCertificate, part_of, state_at}
use Rattle.queue_checker.specs.Flaws.{first_below, unless}

-- hart h's first state with a leaf of which f isn't so
abbrev pub first_failing : (f : KnownState → Form → List Arrow → Bool) → QueueCertificate → (h : ℕ) → Option ℕ
first_failing f c h = first_below (length (part_of c h).states) (λ n. unless (each_leaf f (state_at c h n).known (state_at c h n).cases) n)

-- f makes of a what it does at each leaf, by the number of its state, which is n here
abbrev pub over_leaves : {A : Type 0} → (ℕ → KnownState → A → A) → (n : ℕ) → KnownState → Cases → A → A
over_leaves f n k (leaf d arrows) a = f n k a
over_leaves f n k (split j v low high) a = if may_exceed v (get_or k.ranges j (Some 0))
    then over_leaves f n (with_high k j v) high (over_leaves f n (with_low k j v) low a) else over_leaves f n (with_low k j v) low a

-- at those of hart h's first n states
abbrev pub over_states : {A : Type 0} → (ℕ → KnownState → A → A) → QueueCertificate → (h n : ℕ) → A → A
over_states f c h zero a = a
over_states f c h (suc n) a = over_leaves f n (state_at c h n).known (state_at c h n).cases (over_states f c h n a)

abbrev pub over_hart : {A : Type 0} → (ℕ → KnownState → A → A) → QueueCertificate → (h : ℕ) → A → A
over_hart f c h a = over_states f c h (length (part_of c h).states) a
