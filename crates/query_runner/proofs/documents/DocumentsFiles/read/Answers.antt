use Rattle.std.proofs.Common.{Some, ◌∙◌, ap, sym}
use Rattle.query_runner.specs.Demos.{contents_with}
use Rattle.query_runner.proofs.documents.DocumentsFiles.read.Goals as goal

pub returns-clause-bytes : goal.returns-clause-bytes
unfolding contents_with
returns-clause-bytes c = ap Some (sym (c.in_ok-from_slice.ensures.items ∙ (c.as_bytes.ensures.value ∙ c.named.ensures)))
