use Rattle.lost_row_laws.proofs.RestoreLemmas.{put_back}
use Rattle.lost_row_laws.proofs.laws.lost_rows_are_put_back.Goals as goal

pub returns : goal.returns
returns c = λ mode n plan typed out ran. put_back mode c.args.tables.now n plan typed out ran
