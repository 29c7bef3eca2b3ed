-- Elements in front of those that an answer has.
use Rattle.std.proofs.Common.{List, ◌++◌, Result, Ok}
use Rattle.texts.specs.Results.{◌>>=◌}

abbrev pub onto : {A E : Type 0} → List A → Result (List A) E → Result (List A) E
onto front answer = do
  more ← answer
  Ok (front ++ more)
