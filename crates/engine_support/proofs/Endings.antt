-- How an engine ends, from what it made of its inputs.
use Rattle.std.proofs.Common.{◌≡◌, ℕ, ◌+◌, ◌<◌, ◌≤◌, List, ◌++◌, length, take, Result, Ok, Err, refl, sym, ap, ◌∙◌, subst, arith, append_assoc, length-append}
use Rattle.std.proofs.Common.{length-take}
use Rattle.std.specs.Prelude.{Option, Some, None, IfSome, IsErrAnd, replicate}
use Rattle.std.specs.Io.KnownBytes.{Consumes}
use Rattle.std.proofs.lemmas.List.{length-replicate}
use Rattle.std.proofs.lemmas.Result.{err_from_is_err_and}
use Rattle.engine_support.specs.{Fault, ReadFailed, WriteFailed, NoMemory, Refused, Refusal, too_large, AnswersAs, IsInput, TakesFew, OfInput, Ends}
use Rattle.engine_support.specs.{FindsUpToReads, IsEndOf}

-- ---- what a reader tells

-- bytes that aren't known may be too many
some_longer : (n : ℕ) → (bytes : List ℕ) × (n < length bytes)
some_longer n = (replicate (n + 1) 0, omega (arith, length-replicate {A = ℕ} (n + 1) 0))

pub too_large-found : (known : Option (List ℕ)) (fault : Fault) → fault ≡ Refused too_large
    → IfSome known (λ bytes. 1048576 < length bytes) → OfInput known (λ bytes. IsInput bytes (Err fault))
too_large-found None fault is many = let large = some_longer 1048576 in (large.0, rw is (refl, large.1))
too_large-found (Some bytes) fault is many = rw is (refl, many)

consumes_more : (old mid new : Option (List ℕ)) (xs ys : List ℕ) → Consumes old mid xs → Consumes mid new ys → Consumes old new (xs ++ ys)
consumes_more old mid new xs ys a b = grind (arith, append_assoc)

-- what was read and this chunk are too many
pub too_many : (known left after : Option (List ℕ)) (before chunk : List ℕ) (count : ℕ) → Consumes known left before
    → Consumes left after (take count chunk) → count ≤ length chunk → 1048576 < length before + count
    → IfSome known (λ bytes. 1048576 < length bytes)
too_many known left after before chunk count was is within many = grind (arith, length-append, length-take)

-- with this chunk at most one chunk past the limit was taken
pub taken_chunk : (known left after : Option (List ℕ)) (before chunk : List ℕ) (count : ℕ) → Consumes known left before
    → Consumes left after (take count chunk) → length before ≤ 1048576 → count ≤ length chunk → length chunk ≤ 4096 → TakesFew known after
taken_chunk known left after before chunk count was is few within small = grind (arith, consumes_more, length-append, length-take)

-- what holds of the bytes more weakly
pub weaker : (known : Option (List ℕ)) (P Q : List ℕ → Type 0) → ((bytes : List ℕ) → P bytes → Q bytes) → OfInput known P → OfInput known Q
weaker known P Q more holds = grind arith

-- ---- an input, and what answers it

-- what `?` makes of a fault is that fault
pub is_handed : {T : Type 0} (result : Result T Fault) (fault : Fault) → IsErrAnd result (λ e. e ≡ fault) → result ≡ Err fault
is_handed result fault is = let (e, failed, same) = err_from_is_err_and result is in failed ∙ ap (λ (f : Fault). Err f) same

-- what reads nothing answers, and so does what has read, where each answer of the one is one of the other
pub answered_by : {A X : Type 0} (P Q : Result A Refusal → Type 0) (view : X → A) (result : Result X Fault)
    → ((answer : Result A Refusal) → P answer → Q answer) → AnswersAs P view result → FindsUpToReads Q view result
answered_by P Q view result more answers = grind arith

-- a fault that is handed on, where each refusal that answers one thing answers the other
pub handed_on : {A C X Y : Type 0} (P : Result A Refusal → Type 0) (Q : Result C Refusal → Type 0) (view : X → A) (seen : Y → C)
    (result : Result Y Fault) (fault : Fault) → ((refusal : Refusal) → P (Err refusal) → Q (Err refusal)) → result ≡ Err fault
    → FindsUpToReads P view (Err fault) → FindsUpToReads Q seen result
handed_on P Q view seen result fault more is finds = grind arith

-- ---- the end

pub ended : {X V W : Type 0} (IsAnswer : Result (List ℕ × V) Refusal → Type 0) (view : X → List ℕ × V)
    (made : Result X Fault) (result : Result V Fault) (contents : W → Option (List ℕ)) (old new : W)
    → FindsUpToReads IsAnswer view made → IsEndOf view made result contents old new → Ends IsAnswer result contents old new
ended IsAnswer view (Ok x) (Ok v) contents old new finds end = ((view x).0, subst (λ w. IsAnswer (Ok ((view x).0, w))) (sym end.0) finds, end.1)
ended IsAnswer view (Ok x) (Err WriteFailed) contents old new finds end = (view x, finds)
ended IsAnswer view (Ok x) failed contents old new finds end = absurd end
ended IsAnswer view (Err (Refused r)) result contents old new finds end = rw end.0 (finds, end.1)
ended IsAnswer view (Err ReadFailed) result contents old new finds end = rw end.0 end.1
ended IsAnswer view (Err NoMemory) result contents old new finds end = rw end.0 end.1
ended IsAnswer view (Err WriteFailed) result contents old new finds end = absurd finds
