use Rattle.std.proofs.Common.{◌<◌, ◌^◌, refl, arith}
use Rattle.rv_decode.proofs.Words.{fits_iff_word}
use Rattle.code_engines.proofs.dis.push_meant.Goals as goal

-- what a word means has a word, and so fits one
pub write_instr-requires : goal.write_instr-requires
write_instr-requires c =
    let small : c.args.word < 2 ^ 32 = omega arith in
    (fits_iff_word c.in-Some.instr).1 (c.args.word, small, (c.in-Some.ensures.exact c.in-Some.instr).0 refl)
