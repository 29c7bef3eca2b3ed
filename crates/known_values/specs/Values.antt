-- What the code's enum of values stands for.
use Rattle.known_values.specs.declared.values.Known.{Known}
use Rattle.known_values.specs.declared.values.Known.TheVariants as known
use Rattle.queue_certificates.specs.States.{KnownValue, any, linear, index_for, signed_for, ends_as, has_bits}

abbrev pub known_of : Known → KnownValue
known_of known.Any = any
known_of (known.Linear f) = linear f
known_of (known.IndexFor i f) = index_for i f
known_of (known.SignedFor i f) = signed_for i f
known_of (known.EndsAs n f) = ends_as n f
known_of (known.HasBits m b) = has_bits m b
