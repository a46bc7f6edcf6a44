use Rattle.csv_tables.proofs.PlainLemmas.{quoted_parts}
use Rattle.csv_tables.proofs.field_texts.put_quoted_text.Goals as goal

pub returns : goal.returns
returns c =
    quoted_parts c.args.to.now.items c.push.new.self.items c.put_lead.new.to.items c.put_doubled.new.to.items c.push-2.new.self.items c.args.text.now
    c.in_ok-push.ensures.items c.in_ok-put_lead.ensures c.in_ok-put_doubled.ensures c.in_ok-push-2.ensures.items
