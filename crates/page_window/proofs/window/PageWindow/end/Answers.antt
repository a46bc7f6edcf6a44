use Rattle.page_window.proofs.window.PageWindow.end.Goals as goal
