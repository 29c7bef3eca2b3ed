-- Runs that a generator draws.
use Rattle.std.specs.Prelude.{ℕ, ◌*◌, List}
use Rattle.rand_core.specs.Stream.{Stream}
use Rattle.step_machine.specs.declared.events.Event.{Event}
use Rattle.recorder.specs.Drawing.{left_after}
use Rattle.drawn_runs.specs.declared.Runs.{Runs}
use Rattle.drawn_runs.specs.declared.Sample.{Sample}
use Rattle.drawn_runs.specs.declared.draws.Draw.{Draw}
use Rattle.drawn_runs.specs.Draws.{schedule_by}

-- What is drawn: over buffers of B stores and a memory of M words, in which way and by which stream, how many runs, each of how many events.
pub record DrawnRuns : Type 0 where
  pub B : ℕ
  pub M : ℕ
  pub draw : Draw
  pub stream : Stream
  pub number : ℕ
  pub size : ℕ

-- the runs of these that a generator of this stream draws
abbrev pub runs_drawn : (B M : ℕ) → Draw → Stream → Runs → DrawnRuns
runs_drawn B M draw stream runs = record {
  B = B;
  M = M;
  draw = draw;
  stream = left_after (runs.skip * runs.length) stream;
  number = runs.number;
  size = runs.length;
}

-- those of a sample
abbrev pub runs_of : {G : Type 0} → (B M : ℕ) → (stream_of : G → Stream) → Sample G → DrawnRuns
runs_of B M stream_of sample = runs_drawn B M sample.draw (stream_of sample.generator.now) sample.runs

-- the schedule that has this number, from 0; its events are of `harts` harts
abbrev pub schedule_in : DrawnRuns → (harts number : ℕ) → List Event
schedule_in d harts number = schedule_by d.draw harts d.size d.stream number
