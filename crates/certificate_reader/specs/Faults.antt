-- The faults of a certificate's text, and the numbers by which texts name them.
use Rattle.std.specs.Prelude.{ℕ, Option, Result}
use Rattle.texts.specs.Formats.{or_fault}
use Rattle.certificate_reader.specs.declared.faults.CertificateFault.{CertificateFault}
use Rattle.certificate_reader.specs.declared.faults.CertificateFault.TheVariants.{BadHead, BadLine, Misplaced, TooMany, Unfinished}

abbrev pub certificate_number : CertificateFault → ℕ
certificate_number BadHead = 45
certificate_number BadLine = 46
certificate_number Misplaced = 47
certificate_number TooMany = 48
certificate_number Unfinished = 49

-- the value that a line gives, or else it is of another shape
abbrev pub or_bad_line : {A : Type 0} → Option A → Result A CertificateFault
or_bad_line option = or_fault BadLine option
