-- What is said is laid out.
use Rattle.std.specs.Prelude.{[], ◌∷◌, true, false, codes}
use Rattle.mdoc_layout.specs.declared.acts.Act.{Act}
use Rattle.mdoc_layout.specs.declared.acts.Act.TheVariants as acts
use Rattle.mdoc_layout.specs.declared.page.Page.{Page}
use Rattle.mdoc_layout.specs.Columns.{put_cell, put_column, put_columns, put_row, put_stops}
use Rattle.mdoc_layout.specs.Laying.{Laid, laid, with_lay, put, is_joined, end_line, lay_word}
use Rattle.mdoc_layout.specs.OwnLines.{freshen, end_tag, end_hang, quiet_down, put_space, put_request, put_sized, put_hanging, put_tag, put_numbered, put_title, put_title_prefix, end_title, put_head, put_control, put_naming}
use Rattle.mdoc_layout.specs.References.{put_part_begin, put_reference}
use Rattle.mdoc_layout.specs.Texts.{text_of, prefix_of}

abbrev pub lay_column : Act → Page → Laid
lay_column acts.Columns p = put_columns p
lay_column (acts.Column width) p = put_column width p
lay_column (acts.Stops gap) p = put_stops gap p
lay_column acts.Cell p = put_cell p
lay_column acts.Row p = put_row p
lay_column act p = lay_word act p

abbrev pub lay_request : Act → Page → Laid
lay_request acts.Fresh p = freshen p
lay_request (acts.Tag width) p = put_tag width p
lay_request (acts.TagEnds width) p = end_tag width p
lay_request (acts.HangEnds width) p = end_hang width p
lay_request acts.Quiet p = quiet_down p
lay_request acts.Space p = put_space p
lay_request (acts.Request request) p = put_request request p
lay_request (acts.Sized sized n) p = put_sized sized n p
lay_request (acts.Hanging n) p = put_hanging n p
lay_request (acts.Numbered n width) p = put_numbered n width p
lay_request acts.Title p = put_title p
lay_request acts.TitlePrefix p = put_title_prefix p
lay_request acts.System p = put_head (codes ".ds %o \"") p
lay_request acts.TitleEnds p = end_title p
lay_request acts.Section p = put_head (codes ".SH") p
lay_request acts.Subsection p = put_head (codes ".SS") p
lay_request (acts.Part letter) p = put_part_begin letter p
lay_request acts.Reference p = put_reference p
lay_request acts.Control p = put_control p
lay_request acts.Naming p = put_naming p
lay_request act p = lay_column act p

unfoldable pub lay_out : Act → Page → Laid
lay_out acts.Nothing p = laid p []
lay_out (acts.Byte b) p = laid p (b ∷ [])
lay_out acts.Hyphen p = laid p (codes "\\-")
lay_out (acts.Prefix prefix) p = laid p (prefix_of prefix)
lay_out (acts.Begin b) p = put p.lay.joined (b ∷ []) p
lay_out (acts.Text text) p = put (is_joined p) (text_of text) p
lay_out (acts.Close text) p = put true (text_of text) p
lay_out acts.Join p = laid (with_lay (record p.lay { joined = true }) p) []
lay_out acts.Apart p = laid (with_lay (record p.lay { joined = false }) p) []
lay_out acts.Ends p = laid (end_line p) []
lay_out act p = lay_request act p
