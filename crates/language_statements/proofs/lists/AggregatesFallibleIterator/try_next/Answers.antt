use Rattle.language_statements.proofs.Listed.{aggs_one}
use Rattle.language_statements.proofs.lists.AggregatesFallibleIterator.try_next.Goals as goal

pub returns-clause-item : goal.returns-clause-item
returns-clause-item c =
    aggs_one c.args.self.now.reader c.in-Some.reader c.parse-aggregate.new.reader c.in_ok-self.field-0 _
    c.in-Some.is c.in_ok-aggregate.ensures.item c.in_ok-self.ensures.more c.in_ok-self.ensures.fewer
