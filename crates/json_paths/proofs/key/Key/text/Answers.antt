use Rattle.std.proofs.Common.{ap, sym}
use Rattle.json_paths.specs.Places.{key_text}
use Rattle.json_paths.proofs.key.Key.text.Goals as goal

pub returns-in-Version : goal.returns-in-Version
returns-in-Version c = ap key_text (sym c.in-Version.is)

pub returns-in-Output : goal.returns-in-Output
returns-in-Output c = ap key_text (sym c.in-Output.is)

pub returns-in-Tables : goal.returns-in-Tables
returns-in-Tables c = ap key_text (sym c.in-Tables.is)

pub returns-in-Fragments : goal.returns-in-Fragments
returns-in-Fragments c = ap key_text (sym c.in-Fragments.is)

pub returns-in-Name : goal.returns-in-Name
returns-in-Name c = ap key_text (sym c.in-Name.is)

pub returns-in-Columns : goal.returns-in-Columns
returns-in-Columns c = ap key_text (sym c.in-Columns.is)

pub returns-in-Type : goal.returns-in-Type
returns-in-Type c = ap key_text (sym c.in-Type.is)

pub returns-in-Id : goal.returns-in-Id
returns-in-Id c = ap key_text (sym c.in-Id.is)

pub returns-in-Placement : goal.returns-in-Placement
returns-in-Placement c = ap key_text (sym c.in-Placement.is)

pub returns-in-Root : goal.returns-in-Root
returns-in-Root c = ap key_text (sym c.in-Root.is)

pub returns-in-Kind : goal.returns-in-Kind
returns-in-Kind c = ap key_text (sym c.in-Kind.is)

pub returns-in-Op : goal.returns-in-Op
returns-in-Op c = ap key_text (sym c.in-Op.is)

pub returns-in-Table : goal.returns-in-Table
returns-in-Table c = ap key_text (sym c.in-Table.is)

pub returns-in-Types : goal.returns-in-Types
returns-in-Types c = ap key_text (sym c.in-Types.is)

pub returns-in-Rows : goal.returns-in-Rows
returns-in-Rows c = ap key_text (sym c.in-Rows.is)

pub returns-in-Fragment : goal.returns-in-Fragment
returns-in-Fragment c = ap key_text (sym c.in-Fragment.is)

pub returns-in-Predicate : goal.returns-in-Predicate
returns-in-Predicate c = ap key_text (sym c.in-Predicate.is)

pub returns-in-Input : goal.returns-in-Input
returns-in-Input c = ap key_text (sym c.in-Input.is)

pub returns-in-On : goal.returns-in-On
returns-in-On c = ap key_text (sym c.in-On.is)

pub returns-in-Left : goal.returns-in-Left
returns-in-Left c = ap key_text (sym c.in-Left.is)

pub returns-in-Right : goal.returns-in-Right
returns-in-Right c = ap key_text (sym c.in-Right.is)

pub returns-in-Filters : goal.returns-in-Filters
returns-in-Filters c = ap key_text (sym c.in-Filters.is)

pub returns-in-Step : goal.returns-in-Step
returns-in-Step c = ap key_text (sym c.in-Step.is)

pub returns-in-Keys : goal.returns-in-Keys
returns-in-Keys c = ap key_text (sym c.in-Keys.is)

pub returns-in-Calls : goal.returns-in-Calls
returns-in-Calls c = ap key_text (sym c.in-Calls.is)

pub returns-in-Count : goal.returns-in-Count
returns-in-Count c = ap key_text (sym c.in-Count.is)

pub returns-in-Column : goal.returns-in-Column
returns-in-Column c = ap key_text (sym c.in-Column.is)

pub returns-in-Order : goal.returns-in-Order
returns-in-Order c = ap key_text (sym c.in-Order.is)

pub returns-in-Key : goal.returns-in-Key
returns-in-Key c = ap key_text (sym c.in-Key.is)

pub returns-in-Scan : goal.returns-in-Scan
returns-in-Scan c = ap key_text (sym c.in-Scan.is)

pub returns-in-Wait : goal.returns-in-Wait
returns-in-Wait c = ap key_text (sym c.in-Wait.is)

pub returns-in-Col : goal.returns-in-Col
returns-in-Col c = ap key_text (sym c.in-Col.is)

pub returns-in-Lit : goal.returns-in-Lit
returns-in-Lit c = ap key_text (sym c.in-Lit.is)

pub returns-in-Null : goal.returns-in-Null
returns-in-Null c = ap key_text (sym c.in-Null.is)

pub returns-in-Call : goal.returns-in-Call
returns-in-Call c = ap key_text (sym c.in-Call.is)

pub returns-in-Args : goal.returns-in-Args
returns-in-Args c = ap key_text (sym c.in-Args.is)

pub returns-in-Cast : goal.returns-in-Cast
returns-in-Cast c = ap key_text (sym c.in-Cast.is)

pub returns-in-Case : goal.returns-in-Case
returns-in-Case c = ap key_text (sym c.in-Case.is)

pub returns-in-Else : goal.returns-in-Else
returns-in-Else c = ap key_text (sym c.in-Else.is)

pub returns-in-When : goal.returns-in-When
returns-in-When c = ap key_text (sym c.in-When.is)

pub returns-in-Then : goal.returns-in-Then
returns-in-Then c = ap key_text (sym c.in-Then.is)
