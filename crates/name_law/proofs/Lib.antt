mod NamesApart
