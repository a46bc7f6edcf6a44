use Rattle.page_window.proofs.window.PageWindow.fetch.Goals as goal
