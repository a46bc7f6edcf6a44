use Rattle.csv_tables.proofs.TextLemmas.{record_ended}
use Rattle.csv_tables.proofs.field_texts.end_record.Goals as goal

pub returns : goal.returns
returns c = λ before fields start begun.
    record_ended before c.args.to.now.items c.put_blank.new.to.items c.push.new.self.items fields c.args.start start begun
    c.in_ok-put_blank.ensures c.in_ok-push.ensures.items
