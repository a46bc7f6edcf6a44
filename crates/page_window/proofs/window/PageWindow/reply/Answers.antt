use Rattle.page_window.proofs.window.PageWindow.reply.Goals as goal
