-- The numbers by which texts name what threads refuse, and a refusal to gather as a fault of threads.
use Rattle.std.specs.Prelude.{ℕ}
use Rattle.hart_threads.specs.declared.record.Gather.{Gather}
use Rattle.hart_threads.specs.declared.record.Gather.TheVariants as gather
use Rattle.hart_threads.specs.declared.fault.Fault.{Fault}
use Rattle.hart_threads.specs.declared.fault.Fault.TheVariants as fault
use Rattle.hart_threads.specs.declared.fault.ChannelFault.{ChannelFault}
use Rattle.hart_threads.specs.declared.fault.ChannelFault.TheVariants as channel
use Rattle.hart_threads.specs.declared.fault.ChannelFaultAt.{ChannelFaultAt}
use Rattle.hart_threads.specs.declared.fault.ChannelFaultAt.TheVariants as channel_at
use Rattle.poll_close.specs.declared.faults.RefusedAt.TheVariants as refused_at
use Rattle.poll_close.specs.Refusals as refusals

abbrev pub threads_number : Fault → ℕ
threads_number fault.NoMemory = 0
threads_number (fault.Mismatch h es) = 32
threads_number (fault.Missing h) = 33
threads_number fault.NoThread = 35

abbrev pub channel_number : ChannelFault → ℕ
channel_number (channel.Lists refused) = refusals.refusal_number refused
channel_number (channel.Threads fault) = threads_number fault

abbrev pub channel_number_at : ChannelFaultAt → ℕ
channel_number_at (channel_at.Place refused) = refusals.refusal_number_at refused
channel_number_at (channel_at.Threads fault) = threads_number fault

abbrev pub fault_of : Gather → Fault
fault_of gather.NoMemory = fault.NoMemory
fault_of (gather.Missing h) = fault.Missing h
fault_of (gather.Mismatch h es) = fault.Mismatch h es

-- the same fault of a channel at a place
abbrev pub channel_fault_at : ChannelFault → ChannelFaultAt
channel_fault_at (channel.Lists refused) = channel_at.Place (refused_at.Lists refused)
channel_fault_at (channel.Threads fault) = channel_at.Threads fault
