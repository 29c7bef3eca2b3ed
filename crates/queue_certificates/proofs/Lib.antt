pub mod Counted
pub mod Delivered
pub mod Sets
pub mod Every
pub mod OwnedAccesses
pub mod ToldTags
pub mod ToldProtocol
pub mod ToldAccesses
pub mod Arrived
pub mod KnownBits
pub mod Forms
pub mod Bounds
pub mod Facts
pub mod Values
mod Endings
mod Equals
pub mod Results
pub mod States
pub mod Accesses
pub mod Stores
pub mod Steps
pub mod Received
pub mod Filled
pub mod Effects
pub mod Sends
pub mod Takes
pub mod TagPlaces
pub mod TagShares
mod TagCounts
mod Rounds
mod TagValues
pub mod NextAccess
mod TagKept
pub mod TagNext
pub mod TagStores
mod TagLoads
pub mod Told
pub mod Accepted
pub mod AtLeaf
pub mod Leaves
pub mod Certified
pub mod EveryRun
pub mod OneSlotQueue
pub use Rattle.queue_certificates.proofs.Sets.{CertifiedSets}
pub use Rattle.queue_certificates.proofs.Every.{every_state, holds, next_is}
pub use Rattle.queue_certificates.proofs.ToldAccesses.{knows_of, tag_loaded, told_owns}
pub use Rattle.queue_certificates.proofs.Forms.{less_at, same-exactly, same-value, value-lifted, value-number, value-plus}
pub use Rattle.queue_certificates.proofs.Bounds.{fits-below, value-below}
pub use Rattle.queue_certificates.proofs.Facts.{derived-holds, facts-by, high-splits, low-splits, shown-below}
pub use Rattle.queue_certificates.proofs.Values.{has-bounds, has-plain, known-is}
pub use Rattle.queue_certificates.proofs.Results.{branch-is}
pub use Rattle.queue_certificates.proofs.States.{at-below, exceeds, means-frame, means-high, means-low}
pub use Rattle.queue_certificates.proofs.Accesses.{found-below, hart-party, just-is, missed, party-hart, same-party}
pub use Rattle.queue_certificates.proofs.Stores.{apart-from, slot-place}
pub use Rattle.queue_certificates.proofs.Steps.{IsQuiet, no-code, nobody_told, nothing_sent, quiet-counts, untold}
pub use Rattle.queue_certificates.proofs.Sends.{state-does}
pub use Rattle.queue_certificates.proofs.TagShares.{same-by, tagged-fine, teller-is, told-frame, told-opens}
pub use Rattle.queue_certificates.proofs.NextAccess.{Makes, Stops, next-access}
pub use Rattle.queue_certificates.proofs.TagNext.{Stays, load-stays, set-means, set-told, told_by}
pub use Rattle.queue_certificates.proofs.Accepted.{OfHart, accepted-opens, fine, fine-tagged, of-hart, opens-means, past}
pub use Rattle.queue_certificates.proofs.AtLeaf.{at-leaf}
pub use Rattle.queue_certificates.proofs.Leaves.{IsAmongAll, Led, among-leads, followed, leaf-goes}
pub use Rattle.queue_certificates.proofs.Certified.{accepted-certifies}
pub use Rattle.queue_certificates.proofs.EveryRun.{accepted_fields, accepted_runs, accepted_telling, sets}
