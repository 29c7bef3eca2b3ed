-- What an access of a queue's sender comes to, where its instruction has an effect: what it publishes, and which fields are right after it.
use Rattle.std.proofs.Common.{ℕ, ◌+◌, ◌-◌, ◌*◌, ◌^◌, ◌<◌, ◌≤◌, ◌≡◌, ◌==◌, if◌then◌else◌, Bool, true, false, Option, Some, List, get_or, refl, sym, ◌∙◌, ap}
use Rattle.std.proofs.Common.{subst, arith}
use Rattle.std.specs.List.{list_all}
use Rattle.std.specs.Int.{byte_at}
use Rattle.std.proofs.lemmas.Bool.{eqb-true}
use Rattle.hart.specs.State.{HartState}
use Rattle.hart.specs.declared.status.Status.TheVariants as status
use Rattle.memory.specs.declared.writes.Write.{Write}
use Rattle.memory.specs.Writes.{write, covers}
use Rattle.step_machine.specs.Access.{Access, store, exchange}
use Rattle.slot_queue.specs.{Queue, IsQueue, slot_of, after_access}
use Rattle.queue_parties.specs.{IsInBytes, the_sender, QueueCounts}
use Rattle.queue_certificates.specs.{View, view_then, Field, MeetsField, Form, form_value, most, InRanges, Bounds, KnownValue, misses, last_number, is_field}
use Rattle.queue_certificates.specs.{WritesByte, Effect, Leaves, Fills, Publishes, PublishesSome}
use Rattle.queue_certificates.specs.Filled.{Filled, is_filled, no_field, is_number_of, is_filled_after, most_published}
use Rattle.queue_certificates.proofs.Bounds.{value-below}
use Rattle.queue_certificates.proofs.Accesses.{missed}
use Rattle.queue_certificates.proofs.Filled.{IsNumberOf, IsRight, IsWrittenTo, right-after-store, right-kept}

-- the sender's count after an access of its own
abbrev pub published_then : Queue → QueueCounts → Access → ℕ
published_then q c y = (after_access q (Some the_sender) y c).published

-- it leaves the slots in its hart's view
abbrev pub LeavesSlots : Queue → View → Access → Type 0
LeavesSlots q m y = (x : ℕ) → IsInBytes q.slots (q.size * q.width) x → view_then y m x ≡ m x

-- it writes a number to bytes of a slot, which is a field's where what is known of it says so
pub record IsFilling (q : Queue) (c : QueueCounts) (rs : List (Option ℕ)) (u : KnownValue) (m : View) (y : Access) (p offset width : ℕ) : Type 0 where
  pub written : IsWrittenTo q c.published m (view_then y m) p offset width
  pub number : (f : Field) → f.width ≡ width → last_number f < 256 ^ f.width → is_number_of rs u f ≡ true → IsNumberOf f written.value
  pub bytes : (b : ℕ) → offset ≤ b → b < offset + width → WritesByte y (slot_of q (c.published + p) + b)

-- of an access from these counts and this view, by which what is known so is stored
abbrev pub IsDone : Queue → QueueCounts → List (Option ℕ) → KnownValue → View → Effect → Access → Type 0
IsDone q c rs u m Leaves y = (published_then q c y ≡ c.published) × LeavesSlots q m y
IsDone q c rs u m (Fills p offset width) y = (published_then q c y ≡ c.published) × IsFilling q c rs u m y p offset width
IsDone q c rs u m (Publishes n) y = (published_then q c y ≡ c.published + n) × LeavesSlots q m y
IsDone q c rs u m (PublishesSome n) y = Unit {0}

-- an access by which the hart comes to state z: it publishes no more than the effect says, and where the hart goes on the effect is done
pub record Does (q : Queue) (c : QueueCounts) (rs : List (Option ℕ)) (u : KnownValue) (m : View) (f : Effect) (y : Access) (z : HartState) : Type 0 where
  pub upto : published_then q c y ≤ c.published + most_published f
  pub done : z.status ≡ status.Running → IsDone q c rs u m f y

pub does-leave : (q : Queue) (c : QueueCounts) (rs : List (Option ℕ)) (u : KnownValue) (m : View) (y : Access) (z : HartState)
    → published_then q c y ≡ c.published → LeavesSlots q m y → Does q c rs u m Leaves y z
does-leave q c rs u m y z same leaves = record { upto = omega (arith, same); done = λ runs. (same, leaves) }

-- a store that covers no byte of the slots
pub store-leaves : (q : Queue) (m : View) (w : Write) → ((x : ℕ) → IsInBytes q.slots (q.size * q.width) x → covers w x ≡ false) → LeavesSlots q m (store w)
store-leaves q m w off x at = ap (λ t. if t then byte_at (x - w.addr) w.value else m x) (off x at)

-- one that moves the count by a form publishes its number, or at most its bound
pub does-move : (q : Queue) (c : QueueCounts) (rs : List (Option ℕ)) (xs : List ℕ) → InRanges rs xs → (u : KnownValue) (m : View) (d : Form)
    (y : Access) (z : HartState) → published_then q c y ≡ c.published + form_value d xs → LeavesSlots q m y → (n : ℕ) → most rs d ≡ Some n
    → Does q c rs u m (if n == d.constant then Publishes n else PublishesSome n) y z
does-move q c rs xs ranges u m d y z to leaves n bound = by (n == d.constant) refl
  where
    below : form_value d xs ≤ n
    below = value-below rs d xs n ranges bound

    by : (t : Bool) → (n == d.constant) ≡ t → Does q c rs u m (if t then Publishes n else PublishesSome n) y z
    by false other = record { upto = omega (arith, to, below); done = λ runs. tt }
    by true same = (let is : n ≡ d.constant = eqb-true n d.constant same in record {
      upto = omega (arith, to, below);
      done = λ runs. ((let low : d.constant ≤ form_value d xs = omega arith in omega (arith, to, below, is, low)), leaves);
    })

-- an AMO off the other's index does what its store does
pub does-exchange : (q : Queue) (c : QueueCounts) (rs : List (Option ℕ)) (u : KnownValue) (m : View) (f : Effect) (b : Bounds) (a old new : ℕ) (z : HartState)
    → misses q (Some the_sender) b 4 ≡ true → b.low ≤ a → a ≤ b.high → Does q c rs u m f (store (write a 4 new)) z → Does q c rs u m f (exchange a old new) z
does-exchange q c rs u m f b a old new z off low high w = record { upto = omega (arith, same, w.upto); done = λ runs. by f (w.done runs) }
  where
    same : published_then q c (exchange a old new) ≡ published_then q c (store (write a 4 new))
    same = ap (λ d. published_then q d (store (write a 4 new))) (missed q (Some the_sender) b a 4 old c off low high)

    by : (f : Effect) → IsDone q c rs u m f (store (write a 4 new)) → IsDone q c rs u m f (exchange a old new)
    by Leaves done = (same ∙ done.0, done.1)
    by (Fills p offset width) done = (same ∙ done.0, record { written = done.1.written; number = done.1.number; bytes = done.1.bytes })
    by (Publishes n) done = (same ∙ done.0, done.1)
    by (PublishesSome n) done = tt

-- the fields that are right after an effect
pub right-after : (q : Queue) → IsQueue q → (fs : List Field) → list_all (is_field q) fs ≡ true → (queues : ℕ → Queue) (c : QueueCounts)
    (rs : List (Option ℕ)) (u : KnownValue) (m : View) (y : Access) (ms : Filled) (f : Effect) → IsDone q c rs u m f y
    → ((d j : ℕ) → is_filled q.size ms d j ≡ true → IsRight q fs c.published m d j)
    → (d j : ℕ) → is_filled_after rs q fs u ms f d j ≡ true → IsRight q fs (published_then q c y) (view_then y m) d j
right-after q is fs ok queues c rs u m y ms Leaves done right d j so =
    subst (λ n. IsRight q fs n (view_then y m) d j) (sym done.0) (right-kept q is fs ok c.published m (view_then y m) done.1 d j (right d j so))
right-after q is fs ok queues c rs u m y ms (Fills p offset width) done right d j so = subst (λ n. IsRight q fs n (view_then y m) d j) (sym done.0)
    (right-after-store q is fs ok c.published m (view_then y m) p offset width done.1.written queues rs u ms done.1.number right d j so)
right-after q is fs ok queues c rs u m y ms (Publishes n) done right d j so =
    subst (λ k. MeetsField q k (view_then y m) (get_or fs j no_field))
    (let same : c.published + (d + n) ≡ published_then q c y + d = omega (arith, done.0) in same)
    (right-kept q is fs ok c.published m (view_then y m) done.1 (d + n) j (right (d + n) j so))
right-after q is fs ok queues c rs u m y ms (PublishesSome n) done right d j so = absurd (cc)

-- ---- of a queue of either kind, of which position k lies in the slot at `slot k`: the sender's count, n before an access of its own and m
-- after it, and the bytes that it writes

abbrev pub IsSent : (size : ℕ) (slot : ℕ → ℕ) (n m : ℕ) → Effect → Access → Type 0
IsSent size slot n m Leaves y = m ≡ n
IsSent size slot n m (Fills p offset width) y = (m ≡ n) × (p < size)
    × ((b : ℕ) → offset ≤ b → b < offset + width → WritesByte y (slot (n + p) + b))
IsSent size slot n m (Publishes d) y = m ≡ n + d
IsSent size slot n m (PublishesSome d) y = m ≤ n + d

-- an access by which the hart comes to state z
pub record Sends (size : ℕ) (slot : ℕ → ℕ) (n m : ℕ) (f : Effect) (y : Access) (z : HartState) : Type 0 where
  pub upto : m ≤ n + most_published f
  pub done : z.status ≡ status.Running → IsSent size slot n m f y

pub sent-sends : (size : ℕ) (slot : ℕ → ℕ) (n m : ℕ) (f : Effect) (y : Access) (z : HartState) → IsSent size slot n m f y → Sends size slot n m f y z
sent-sends size slot n m f y z sent = record { upto = by f sent; done = λ runs. sent }
  where
    by : (f : Effect) → IsSent size slot n m f y → m ≤ n + most_published f
    by Leaves same = omega (arith, same)
    by (Fills p offset width) sent = omega (arith, sent.0)
    by (Publishes d) to = omega (arith, to)
    by (PublishesSome d) upto = upto

pub does-sends : (q : Queue) (c : QueueCounts) (rs : List (Option ℕ)) (u : KnownValue) (m : View) (f : Effect) (y : Access) (z : HartState)
    → Does q c rs u m f y z → Sends q.size (slot_of q) c.published (published_then q c y) f y z
does-sends q c rs u m f y z w = record { upto = w.upto; done = λ runs. by f (w.done runs) w.upto }
  where
    by : (f : Effect) → IsDone q c rs u m f y → published_then q c y ≤ c.published + most_published f
        → IsSent q.size (slot_of q) c.published (published_then q c y) f y
    by Leaves done upto = done.0
    by (Fills p offset width) done upto = (done.0, done.1.written.near, done.1.bytes)
    by (Publishes n) done upto = done.0
    by (PublishesSome n) done upto = upto

-- another access that writes the same bytes
pub sends-as : (size : ℕ) (slot : ℕ → ℕ) (n m : ℕ) (f : Effect) (y w : Access) (z : HartState) → ((x : ℕ) → WritesByte y x → WritesByte w x)
    → Sends size slot n m f y z → Sends size slot n m f w z
sends-as size slot n m f y w z writes sends = record { upto = sends.upto; done = λ runs. by f (sends.done runs) }
  where
    by : (f : Effect) → IsSent size slot n m f y → IsSent size slot n m f w
    by Leaves same = same
    by (Fills p offset width) sent = (sent.0, sent.1, λ b from below. writes (slot (n + p) + b) (sent.2 b from below))
    by (Publishes d) to = to
    by (PublishesSome d) upto = upto
