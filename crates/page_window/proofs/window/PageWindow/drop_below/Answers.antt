use Rattle.page_window.proofs.window.PageWindow.drop_below.Goals as goal
