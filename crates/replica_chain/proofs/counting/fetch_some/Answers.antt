use Rattle.std.proofs.Common.{List, ℕ, arith, sym, subst}
use Rattle.outside_api.specs.Link.{Answers}
use Rattle.outside_api.specs.declared.link.Fetched.TheVariants.{Bytes, End, Next}
use Rattle.replica_chain.proofs.counting.fetch_some.Goals as goal

pub returns-then-count-eq0-clause-told : goal.returns-then-count-eq0-clause-told
returns-then-count-eq0-clause-told g c = λ texts told scanned.
    let link = rw c.in-Ok-Bytes.field-0-is at c.in-Ok-Bytes.ensures.as_link in
    let answers = subst (λ (all : List (List ℕ)). Answers all c.args.generation c.args.at (Bytes c.in-Ok-Bytes.count) c.fetch_on.new.buffer) (sym told.are) (link told.was told.doubt told.before told.files told.stands told.sees told.as_many told.older scanned) in
    absurd (omega (arith, answers.0, c.if-count-eq0.true))

pub returns-else-count-eq0-clause-told : goal.returns-else-count-eq0-clause-told
returns-else-count-eq0-clause-told g c = λ texts told scanned.
    let link = rw c.in-Ok-Bytes.field-0-is at c.in-Ok-Bytes.ensures.as_link in
    let answers = subst (λ (all : List (List ℕ)). Answers all c.args.generation c.args.at (Bytes c.in-Ok-Bytes.count) c.fetch_on.new.buffer) (sym told.are) (link told.was told.doubt told.before told.files told.stands told.sees told.as_many told.older scanned) in
    (answers.1, answers.2)

pub returns-in-Ok-End-clause-told : goal.returns-in-Ok-End-clause-told
returns-in-Ok-End-clause-told g c = λ texts told scanned.
    let link = rw c.in-Ok-End.field-0-is at c.in-Ok-End.ensures.as_link in
    let answers = subst (λ (all : List (List ℕ)). Answers all c.args.generation c.args.at (End) c.fetch_on.new.buffer) (sym told.are) (link told.was told.doubt told.before told.files told.stands told.sees told.as_many told.older scanned) in
    answers.0

pub returns-in-Ok-Next-clause-told : goal.returns-in-Ok-Next-clause-told
returns-in-Ok-Next-clause-told g c = λ texts told scanned.
    let link = rw c.in-Ok-Next.field-0-is at c.in-Ok-Next.ensures.as_link in
    let answers = subst (λ (all : List (List ℕ)). Answers all c.args.generation c.args.at (Next) c.fetch_on.new.buffer) (sym told.are) (link told.was told.doubt told.before told.files told.stands told.sees told.as_many told.older scanned) in
    answers.0
