-- All settings, as they are at first.
use Rattle.nr_settings.specs.Filling.{first_filling}
use Rattle.nr_settings.specs.Indents.{first_indents}
use Rattle.nr_settings.specs.Fonts.{first_fonts}
use Rattle.nr_settings.specs.Tabs.{first_tabs}
use Rattle.nr_settings.specs.Hyphenation.{first_hyphenation}
use Rattle.nr_settings.specs.Pages.{first_pages}
use Rattle.nr_settings.specs.declared.settings.Settings.{Settings}

abbrev pub first_settings : Settings
first_settings = record {
  filling = first_filling;
  indents = first_indents;
  fonts = first_fonts;
  tabs = first_tabs;
  hyphenation = first_hyphenation;
  pages = first_pages;
  text_width = 0;
}
