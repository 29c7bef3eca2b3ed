use Rattle.std.proofs.Common.{◌≡◌, ◌≤◌, List, [], ◌∷◌, ◌++◌, Err, IfSome, length, arith}
use Rattle.litmus.proofs.StageLaws.{few_negations, is_within, push_laid, push_added, push_refused}
use Rattle.litmus.specs.{Symbol, ConditionError, NoMemory, Misplaced, fault_of, symbol_added, Begins}
use Rattle.litmus.proofs.BeginLaws.{begins_built, refused_begins}
use Rattle.litmus.proofs.draft.ConditionDraft.push.Goals as goal

pub take-requires : goal.take-requires
take-requires c =
    record {
      room =
          let few : c.self.inside.builder.here.negations ≤ length c.self.inside.tokens.items =
          few_negations c.self.inside.tokens.items c.self.inside.builder c.self.invariant in
          omega (arith, few, c.self.inside.tokens.small, c.self.inside.tokens.ok.0, c.self.inside.tokens.ok.1);
      within = is_within c.self.inside.tokens.items c.self.inside.builder c.self.invariant;
    }

pub invariant_of-self-in-Ok : goal.invariant_of-self-in-Ok
invariant_of-self-in-Ok c = rw (c.push_reserved.ensures.items, c.reserve.ensures.items)
    (push_laid c.self.inside.tokens.items c.args.token c.self.inside.builder c.take.new.self c.self.invariant
    c.in-Ok.ensures.exact)

pub returns-in-Ok-clause-exact : goal.returns-in-Ok-clause-exact
returns-in-Ok-clause-exact c = rw (c.push_reserved.ensures.items, c.reserve.ensures.items, ← c.self.view_is)
    (push_added c.self.inside.tokens.items c.args.token c.self.inside.builder c.take.new.self c.self.invariant
    c.in-Ok.ensures.exact)

pub returns-in-Err-clause-exact : goal.returns-in-Err-clause-exact
returns-in-Err-clause-exact c = rw (← c.self.view_is)
    (push_refused c.self.inside.tokens.items c.args.token c.self.inside.builder c.in-Err.error c.self.invariant
    c.in-Err.ensures.exact)

pub returns-in-Ok-clause-begins : goal.returns-in-Ok-clause-begins
returns-in-Ok-clause-begins c = begins_built c.push_reserved.new.self.items c.take.new.self (invariant_of-self-in-Ok c)

misplaced-refused : (symbols : List Symbol) (next : Symbol) (e : ConditionError)
    → IfSome (fault_of e) (λ fault. symbol_added symbols next ≡ Err fault) → e ≡ Misplaced
    → ¬ Begins (symbols ++ next ∷ [])
misplaced-refused symbols next NoMemory not_one same = absurd (cc)
misplaced-refused symbols next Misplaced not_one same = refused_begins symbols next not_one

pub returns-in-Err-clause-misplaced : goal.returns-in-Err-clause-misplaced
returns-in-Err-clause-misplaced c = λ same. let is : c.in-Err.error ≡ Misplaced = cc in
    misplaced-refused c.args.self.now c.args.token c.in-Err.error (returns-in-Err-clause-exact c) is
