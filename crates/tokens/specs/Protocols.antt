-- Tokens as a protocol of certified runs: alone, and with a queue of which the sender's role passes with one of them.
use Rattle.std.specs.Prelude.{ℕ, ◌≡◌, Bool, true, Some, ◌≢◌, ◌==◌, if◌then◌else◌, Option, None}
use Rattle.memory.specs.Writes.{write}
use Rattle.hart.specs.State.{HartState}
use Rattle.step_machine.specs.declared.events.Entry.{Entry}
use Rattle.step_machine.specs.History.{OpeningValue}
use Rattle.step_machine.specs.Access.{access_of}
use Rattle.queue_parties.specs.Parties.{Party, the_sender, the_receiver, QueueCounts}
use Rattle.slot_queue.specs.Queues.{Queue}
use Rattle.slot_queue.specs.Ownership.{after_access, KeepsAccess}
use Rattle.certified_runs.specs.Views.{View, number_seen, view_then}
use Rattle.certified_runs.specs.Certified.{Acts, Protocol}
use Rattle.queue_certificates.specs.OwnedRuns.{SeesIndices}
use Rattle.tokens.specs.Tokens.{TokenLayout, lays, Holders, holders_then, May, lays_down}
use Rattle.tokens.specs.Roles.{is_holder}

-- hart h holds the same tokens
abbrev pub HoldsSame : (h : ℕ) → (c d : Holders) → Type 0
HoldsSame h c d = (t : ℕ) → (c t ≡ Some h → d t ≡ Some h) × (d t ≡ Some h → c t ≡ Some h)

-- If a token lies in a place, as a hart sees it, the hart may take for granted that it doesn't hold it, and that what is said of it is so.
-- The bytes that a token guards are its holder's own
abbrev pub holding : TokenLayout → (says : ℕ → View → Bool) → Protocol Holders
holding q says = record {
  next = holders_then q;
  IsSame = HoldsSame;
  May = May q;
  Knows = λ h c m. (a t : ℕ) → lays q (write a 4 (number_seen m a 4)) t ≡ true → (c t ≡ Some h → ⊥) × (says t m ≡ true);
  Owns = λ h c x. (t : ℕ) × (q.guards t x ≡ true) × (c t ≡ Some h);
}

-- what is said of a token is so, as the hart then reads, wherever an instruction lays the token down
abbrev pub HandsRightly : (M : ℕ) → OpeningValue → (q : TokenLayout) (says : ℕ → View → Bool) → (P : ℕ → HartState → View → Holders → Type 0) → Type 0
HandsRightly M o q says P = (h : ℕ) (s : HartState) (m : View) (c : Holders) (e : Entry) → P h s m c → Acts M o h s m e → (holding q says).Knows h c m
    → (t : ℕ) → lays_down q (access_of e) t → says t (view_then (access_of e) m) ≡ true

-- ---- with a queue

abbrev pub RoleCounts : Type 0
RoleCounts = Holders × QueueCounts

-- which party hart h acts as: the sender while it holds token s
abbrev pub party_holding : (s : ℕ) → Queue → Holders → (h : ℕ) → Option Party
party_holding s k c h = if is_holder (c s) h then Some the_sender else (if h == k.receiver then Some the_receiver else None)

-- hart h knows the same of both: which tokens it holds, and of the queue what its party knows
pub record SameRole (s : ℕ) (k : Queue) (h : ℕ) (a b : RoleCounts) : Type 0 where
  pub holds : HoldsSame h a.0 b.0
  pub sends : a.0 s ≡ Some h → (b.1.published ≡ a.1.published) × (b.1.known_taken ≡ a.1.known_taken)
  pub receives : h ≡ k.receiver → (b.1.taken ≡ a.1.taken) × (b.1.known_published ≡ a.1.known_published)

-- the receiver never takes the sender's role
abbrev pub playing : TokenLayout → (says : ℕ → View → Bool) → (s : ℕ) → Queue → Protocol RoleCounts
playing q says s k = record {
  next = λ h y a. (holders_then q h y a.0, after_access k (party_holding s k a.0 h) y a.1);
  IsSame = SameRole s k;
  May = λ h a y. May q h a.0 y × KeepsAccess k (party_holding s k a.0 h) a.1 y × ((a.0 s ≡ Some h → ⊥) → holders_then q h y a.0 s ≡ Some h → h ≢ k.receiver);
  Knows = λ h a m. (holding q says).Knows h a.0 m × ((p : Party) → party_holding s k a.0 h ≡ Some p → SeesIndices k p a.1 m);
  Owns = λ h a x. (holding q says).Owns h a.0 x;
}

-- the same as `HandsRightly`, of these counts
abbrev pub HandsOnRightly : (M : ℕ) → OpeningValue → (q : TokenLayout) (says : ℕ → View → Bool) (s : ℕ) → Queue
    → (P : ℕ → HartState → View → RoleCounts → Type 0) → Type 0
HandsOnRightly M o q says s k P = (h : ℕ) (z : HartState) (m : View) (a : RoleCounts) (e : Entry) → P h z m a → Acts M o h z m e
    → (playing q says s k).Knows h a m → (t : ℕ) → lays_down q (access_of e) t → says t (view_then (access_of e) m) ≡ true
