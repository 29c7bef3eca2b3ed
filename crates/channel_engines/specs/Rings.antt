-- The command `ring`: two programs and the senders' lists in, totals of drawn runs or a short unclean one out.
use Rattle.std.specs.Prelude.{ℕ, ◌≡◌, Bool, true, false, List, [], Option, Result, Ok, Err}
use Rattle.drawn_runs.specs.Samples.{DrawnRuns}
use Rattle.poll_close.specs.Laws.{AcceptedAt as IsWithin}
use Rattle.poll_close.specs.Layout.{layout_of}
use Rattle.poll_close.specs.declared.place.BlockPlace.{BlockPlace}
use Rattle.engine_support.specs.declared.fault.Refusal.{Refusal}
use Rattle.engine_support.specs.declared.fault.Role.TheVariants.{Sender, Receiver}
use Rattle.engine_support.specs.Inputs.{After}
use Rattle.ring_trials.specs.Answers.{IsTrialsOutput}
use Rattle.ring_trials.specs.UserChannel.{lists_of}
use Rattle.ring_trials.specs.declared.user_channel.UserChannel.{UserChannel}
use Rattle.channel_engines.specs.Channels.{HasNoChannel}
use Rattle.channel_engines.specs.Lists.{list_texts}
use Rattle.channel_engines.specs.UserChannels.{ring_over, programs}

-- the channel of these programs and lists at this place
pub record IsUserChannel (place : BlockPlace) (sends receives : List ℕ) (lists : List (List ℕ)) (channel : UserChannel) : Type 0 where
  pub sends_are : channel.sender.items ≡ sends
  pub receives_are : channel.receiver.items ≡ receives
  pub lists_are : lists_of channel ≡ lists
  pub lies : channel.place ≡ place

-- The lists and the place are within the limits, and the answer is of the drawn runs of their channel.
pub record IsDrawnOutput (d : DrawnRuns) (place : BlockPlace) (sends receives : List ℕ) (lists : List (List ℕ)) (answer : List ℕ × Bool) : Type 0 where
  pub within : IsWithin (ring_over sends receives) d.M lists (layout_of place [])
  pub channel : UserChannel
  pub is_channel : IsUserChannel place sends receives lists channel
  pub output : IsTrialsOutput d channel answer

-- the text for the runs, and whether all are clean, or why there are none
abbrev pub AreDrawn : DrawnRuns → BlockPlace → (sends receives : List ℕ) → List (List ℕ) → Result (List ℕ × Bool) Refusal → Type 0
AreDrawn d place sends receives lists (Ok answer) = IsDrawnOutput d place sends receives lists answer
AreDrawn d place sends receives lists (Err refusal) = HasNoChannel (ring_over sends receives) d.M (layout_of place []) lists refusal

-- What answers two programs and lists, of which these runs are drawn. They are judged in the order in which they are read, then the lists and the place.
abbrev pub IsRingAnswer : DrawnRuns → BlockPlace → (sender receiver input : Option (List ℕ)) → Result (List ℕ × Bool) Refusal → Type 0
IsRingAnswer d place sender receiver input =
    After (programs Sender) sender (λ sends. After (programs Receiver) receiver (λ receives. After list_texts input (AreDrawn d place sends receives)))

-- Two answers are one output of clean runs, or both are of runs that aren't all clean, or they are one refusal.
abbrev pub AreAlikeRuns : (a b : Result (List ℕ × Bool) Refusal) → Type 0
AreAlikeRuns (Ok (a, true)) (Ok (b, true)) = a ≡ b
AreAlikeRuns (Ok (a, true)) (Ok (b, false)) = ⊥
AreAlikeRuns (Ok (a, false)) (Ok (b, true)) = ⊥
AreAlikeRuns (Ok (a, false)) (Ok (b, false)) = Unit {0}
AreAlikeRuns (Ok a) (Err s) = ⊥
AreAlikeRuns (Err r) (Ok b) = ⊥
AreAlikeRuns (Err r) (Err s) = r ≡ s
