use Rattle.col_pages.proofs.page.Page.block.Goals as goal

pub returns-clause-cells : goal.returns-clause-cells
returns-clause-cells c = rw (← c.self.view_is) c.block.ensures.cells
