use Rattle.page_window.proofs.window.PageWindow.ack.Goals as goal
